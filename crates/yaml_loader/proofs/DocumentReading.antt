-- What the reading of one document does, from what its loader took.
use Rattle.yaml_loader.proofs.Common.{[], ap, append-nil, append_assoc, arith, BeginsPlaced, by_key, by_memory, by_parser, documents_of, Ended, EndsDocument, Err, ErrorReport, Ev, events_of, false, fault_in, Faults, has_end, HasDocuments, HasNoEnd, HasNoted, HasRead, inl, inr, is_end, is_stream_end, IsBetween, IsGivenFault, IsNested, IsPlain, IsRead, IsSome, items_view, items_view_push, KeepsSettings, kept_fault, length, length-append, List, Loader, loader_of, map-append, new_loader, None, Ok, Option, option_to_list, Parsed, Position, raws_of, read, Reads, ReadsAll, ReadsOne, refl, refused_at, Refuses, reverse, reverse-append, Some, Stops, subst, sym, Takes, TakesAll, TakesDocument, Token, Tree, true, view, WantsMemory, with_event_at, with_events, Yaml, YamlLoader, ℕ, ◌++◌, ◌<◌, ◌∙◌, ◌∷◌, ◌≡◌, ◌⊎◌}
use Rattle.yaml_loader.specs.OneDocument.{finished}
use Rattle.yaml_loader.proofs.LoadLemmas.{events_append, new_fault, stands, end_stays, read_documents, has_are, was_noted, HasOneOrNone, end_reads}
use Rattle.proof_loads.proofs.Pulled.{read_given, has_end_append}
use Rattle.yaml_loader.specs.declared.one_document.Halt.{Halt}
use Rattle.yaml_loader.specs.declared.one_document.Halt.TheVariants as halt
use Rattle.yaml_loader.proofs.Numbers.{highest, AreOwn, named_own, own_rest, up_to, UpTo, ClosesStream, closes_at_start, closes_after, nothing_began, Over, over_so_far}
use Rattle.yaml_loader.proofs.Beside.{AllSuit, StandBeside, working, events_beside, beside_read, beside_has, beside_noted, beside_documents, beside_refused, no_more_documents}
use Rattle.yaml_loader.proofs.AnyText.{new_fault_wants, not_refused}

-- ---- what came

-- the events that came
abbrev pub all_of : {old now : Parsed} → Ended old now → List (Ev × Position)
all_of c = c.events ++ (c.last, c.position) ∷ []

plain_after : {old now : Parsed} → IsPlain old → KeepsSettings old now → IsPlain now
plain_after h s = record { keep_tags = s.keep_tags ∙ h.keep_tags; steady = s.steady ∙ h.steady }

pub is_read : {old now : Parsed} → IsPlain old → Ended old now → IsRead now
is_read h c = record { plain = plain_after h c.settings; ahead = c.ahead; sound = c.sound }

pub read_is : {p : Parsed} → IsRead p → read p ≡ p.given
read_is {p} h = read_given p.given p.ended p.ahead h.ahead

given_is : {old now : Parsed} (c : Ended old now) → read now ≡ old.given ++ all_of c
given_is {old} {now} c = read_given now.given now.ended now.ahead c.ahead ∙ c.given

pub parts : (es fs : List (Ev × Position)) → events_of (es ++ fs) ≡ events_of es ++ events_of fs
parts es fs = map-append (λ (v : Ev × Position). v.0) es fs

-- a stream begins with the events that were read
stream_begins : {old now : Parsed} → IsPlain old → (c : Ended old now) → (before : List Token) × BeginsPlaced now.keep_tags before (old.given ++ all_of c)
stream_begins {old} {now} h c =
    let f = c.sound.follows (plain_after h c.settings).steady in
    (f.before, subst (BeginsPlaced now.keep_tags f.before) (given_is c) f.begins)

-- the highest number of an anchor so far
abbrev high : Parsed → ℕ
high p = highest 0 (events_of p.given)

module _ {old now : Parsed} (b : IsBetween old) (c : Ended old now) where
  -- The events that came close the stream, with more.
  closes_so : (more : List Ev) × ClosesStream (events_of (all_of c) ++ more)
  closes_so =
      let n = c.sound.nested in
      let nested : IsNested (events_of (old.given ++ all_of c) ++ n.0) = subst (λ es. IsNested (events_of es ++ n.0)) (given_is c) n.1 in
      elim b.last [
        | inl none ↦ (n.0, closes_at_start (events_of (all_of c) ++ n.0) (subst (λ es. IsNested (events_of (es ++ all_of c) ++ n.0)) none nested))
        | inr ends ↦
            let before = events_of ends.before ++ Ev.document_end ∷ [] in
            let same : events_of old.given ≡ before = ap events_of ends.given ∙ parts ends.before ((Ev.document_end, ends.position) ∷ []) in
            let split : events_of (old.given ++ all_of c) ++ n.0 ≡ before ++ (events_of (all_of c) ++ n.0) =
            ap (λ es. es ++ n.0) (parts old.given (all_of c) ∙ ap (λ es. es ++ events_of (all_of c)) same) ∙ append_assoc before (events_of (all_of c)) n.0 in
            (n.0, closes_after (events_of ends.before) (events_of (all_of c) ++ n.0) (subst IsNested split nested))
      ]

  its_aliases_are_over : AllSuit (Over (high old)) (all_of c)
  its_aliases_are_over =
      let s = stream_begins b.plain c in
      let more = s.1.more_events in
      let all = named_own now.keep_tags (record { count = 0; anchors = []; handles = [] }) 0 (raws_of s.1.stream.raws) _ (omega arith) tt s.1.stream.has_events in
      let split : events_of ((old.given ++ all_of c) ++ more) ≡ events_of old.given ++ (events_of (all_of c) ++ events_of more) =
      ap events_of (append_assoc old.given (all_of c) more) ∙ parts old.given (all_of c ++ more) ∙ ap (λ es. events_of old.given ++ es) (parts (all_of c) more) in
      let own = own_rest 0 0 (events_of old.given) (events_of (all_of c) ++ events_of more) (subst (AreOwn 0 0) split all) in
      over_so_far (all_of c) closes_so.0 (events_of more) own.0 (high old) closes_so.1 own.1

  -- A loader of all events stands beside one of the events that came.
  beside : StandBeside (Over (high old)) (finished old) (with_events new_loader now.given) (with_events new_loader (all_of c))
  beside =
      let new : StandBeside (UpTo (high old)) [] new_loader new_loader = working (record { is = refl; anchors = λ n. (refl, λ l. refl); opened = tt }) in
      let up = events_beside old.given (up_to (high old) 0 old.given (omega arith)) new in
      subst (λ l. StandBeside (Over (high old)) (finished old) l (with_events new_loader (all_of c)))
      (sym (ap (with_events new_loader) c.given ∙ events_append new_loader old.given (all_of c)))
      (events_beside (all_of c) its_aliases_are_over (at_start (finished old) b.read up))
    where
      at_start : {x y : Loader} (ds : List Tree) → HasRead (Ok ds) x → StandBeside (UpTo (high old)) [] x y → StandBeside (Over (high old)) ds x new_loader
      at_start ds h (working {u} k) = working (record {
        is = λ i. record { documents = (h.0 ∙ sym (append-nil ds)) i; opened = h.1 i; root = h.2 i; anchors = u.anchors };
        anchors = λ n l. (k.anchors n).1 l;
        opened = tt;
      })
      at_start ds h x = absurd h

  -- With the stream's end nothing was read.
  nothing_read : c.last ≡ Ev.stream_end → with_events new_loader (all_of c) ≡ new_loader
  nothing_read e =
      events_append new_loader c.events ((c.last, c.position) ∷ []) ∙ ap (λ v. with_event_at (with_events new_loader c.events) v c.position) e
      ∙ end_stays (with_events new_loader c.events) c.position
      ∙ nothing_began c.events c.position closes_so.0 c.no_end
      (subst (λ v. ClosesStream (events_of (c.events ++ (v, c.position) ∷ []) ++ closes_so.0)) e closes_so.1)

-- ---- which end it is

end_cases : (e : Ev) → is_end e ≡ true → (e ≡ Ev.document_end) ⊎ (e ≡ Ev.stream_end)
end_cases Ev.document_end h = inl refl
end_cases Ev.stream_end h = inr refl
end_cases _ h = cc

given_with : {old now : Parsed} (c : Ended old now) {e : Ev} → c.last ≡ e → now.given ≡ (old.given ++ c.events) ++ (e, c.position) ∷ []
given_with {old} c {e} is = c.given ∙ ap (λ v. old.given ++ (c.events ++ (v, c.position) ∷ [])) is ∙ sym (append_assoc old.given c.events ((e, c.position) ∷ []))

-- the last event ended a document
ends_document : {old now : Parsed} (c : Ended old now) → c.last ≡ Ev.document_end → EndsDocument now
ends_document {old} c e = record { before = old.given ++ c.events; position = c.position; given = given_with c e }

after_document : {old now : Parsed} (c : Ended old now) → c.last ≡ Ev.document_end → HasOneOrNone (with_events new_loader (all_of c))
after_document c e = rw (events_append new_loader c.events ((c.last, c.position) ∷ []), e)
    (end_reads (with_events new_loader c.events) c.position (no_more_documents new_loader c.events c.no_end))

-- ---- a document that was read

-- what a list ends with
pub same_last : {A : Type 0} (xs ys : List A) (a b : A) → xs ++ a ∷ [] ≡ ys ++ b ∷ [] → a ≡ b
same_last xs ys a b e = let x = reverse-append xs (a ∷ []) in let y = reverse-append ys (b ∷ []) in let same = ap reverse e in cc

-- what a vector of one tree, or of none, gives up
one_popped : (xs ys : List Yaml) (r : Option Yaml) (t : Tree) → xs ≡ ys ++ option_to_list r → (0 < length xs → IsSome r) → items_view xs ≡ t ∷ [] → (y : Yaml) × (r ≡ Some y) × (view y ≡ t)
one_popped xs ys (Some y) t e some h = (y, refl, same_last (items_view ys) [] (view y) t (sym (items_view_push ys xs y e) ∙ h))
one_popped [] ys None t e some h = cc
one_popped (x ∷ xs) ys None t e some h = let no : false ≡ true = some (omega arith) in cc

none_popped : (xs ys : List Yaml) (r : Option Yaml) → xs ≡ ys ++ option_to_list r → items_view xs ≡ [] → r ≡ None
none_popped xs ys None e h = refl
none_popped xs ys (Some y) e h =
    let none = sym (items_view_push ys xs y e) ∙ h in
    absurd (omega (arith, ap length none, length-append (items_view ys) (view y ∷ [])))

module _ {old now : Parsed} {r s : YamlLoader} (b : IsBetween old) (new : loader_of r ≡ new_loader) (clear : kept_fault r ≡ None) where
  reads_one : (t : TakesAll Takes old r now s) → t.came.last ≡ Ev.document_end → (ds : List Tree) → HasDocuments (with_events new_loader (all_of t.came)) ds
      → (tree : Tree) × (ds ≡ tree ∷ []) × ReadsOne old tree now
  reads_one t e ds has = elim (after_document t.came e) [
    | inl one ↦
        let c = t.came in
        let read = beside_read (one.0 ∷ []) (beside b c) one.1 in
        let are : finished now ≡ finished old ++ one.0 ∷ [] = read_documents (with_events new_loader now.given) (finished old ++ one.0 ∷ []) read in (
          one.0,
          sym (has_are _ ds has) ∙ read_documents _ (one.0 ∷ []) one.1,
          record {
            between = record {
              going = record { fault = c.sound.fault; ended = t.ended ∙ ap is_stream_end e };
              plain = plain_after b.plain c.settings;
              read = subst (λ xs. HasRead (Ok xs) (with_events new_loader now.given)) (sym are) read;
              last = inr (ends_document c e);
            };
            is_read = is_read b.plain c;
            last = ends_document c e;
            added = are;
            less = t.less (λ k. let no : Ev.document_end ≡ Ev.stream_end = sym e ∙ k in cc);
          },
        )
    | inr none ↦ absurd (none.1 ds has)
  ]

  reads_all : (t : TakesAll Takes old r now s) → t.came.last ≡ Ev.stream_end → (ds : List Tree) → HasDocuments (with_events new_loader (all_of t.came)) ds → (ds ≡ []) × ReadsAll old now
  reads_all t e ds has =
      let c = t.came in
      let all : HasDocuments (with_events new_loader now.given) (finished old) =
      subst (HasDocuments (with_events new_loader now.given)) (append-nil (finished old))
      (beside_has [] (beside b c) (subst (λ l. HasDocuments l []) (sym (nothing_read b c e)) refl)) in
      let are : finished now ≡ finished old = has_are (with_events new_loader now.given) (finished old) all in
      let ends : now.given ≡ (old.given ++ c.events) ++ (Ev.stream_end, c.position) ∷ [] = given_with c e in (
        sym (subst (λ l. HasDocuments l ds) (nothing_read b c e) has),
        record {
          is_read = is_read b.plain c;
          ended = ap has_end ends ∙ has_end_append (old.given ++ c.events) ((Ev.stream_end, c.position) ∷ []) ∙ grind arith;
          same = are;
          documents = subst (HasDocuments (with_events new_loader now.given)) (sym are) all;
        },
      )

  -- What the loader gives is the document, if there was one.
  pub read_so : (xs ys : List Yaml) (o : Option Yaml) → TakesAll Takes old r now s → HasDocuments (loader_of s) (items_view xs) → xs ≡ ys ++ option_to_list o → (0 < length xs → IsSome o) → Reads old (Ok o) now
  read_so xs ys o t has e some =
      let all = all_of t.came in
      let mine : HasDocuments (with_events new_loader all) (items_view xs) = beside_has (items_view xs) (stands r new clear t.received).beside has in
      elim (end_cases t.came.last t.is_end) [
        | inl h ↦
            let one = reads_one t h (items_view xs) mine in
            let popped = one_popped xs ys o one.0 e some one.1 in
            subst (λ z. Reads old (Ok z) now) (sym popped.1) (subst (λ z. ReadsOne old z now) (sym popped.2) one.2)
        | inr h ↦
            let none = reads_all t h (items_view xs) mine in
            subst (λ z. Reads old (Ok z) now) (sym (none_popped xs ys o e none.0)) none.1
      ]

-- ---- why it stops

module _ {old now : Parsed} {r s : YamlLoader} (b : IsBetween old) (new : loader_of r ≡ new_loader) (clear : kept_fault r ≡ None) where
  -- Where the loader has noted a key, the documents are those before.
  pub stops_by_key : (f : ErrorReport) → TakesAll Takes old r now s → IsGivenFault s f → Stops old f now
  stops_by_key f t (IsGivenFault.kept is) = let both = sym (stands r new clear t.received).clear ∙ is in cc
  stops_by_key f t (IsGivenFault.repeated_key key has tells owned) =
      let c = t.came in
      let after = stands r new clear t.received in
      let mine = beside_noted key f.position after.beside has in
      elim (end_cases c.last t.is_end) [
        | inl h ↦
            let none : documents_of (with_events new_loader (all_of c)) ≡ [] = elim (after_document c h) [
              | inl one ↦ let no = was_noted (Ok (one.0 ∷ [])) (with_events new_loader (all_of c)) key f.position one.1 mine in cc
              | inr none ↦ none.0
            ] in
            by_key (is_read b.plain c) (ends_document c h)
            (beside_documents (beside b c) ∙ ap (λ xs. finished old ++ xs) none ∙ append-nil (finished old))
            key (beside_noted key f.position (beside b c) mine) (tells after.tells) owned
        | inr h ↦ absurd (subst (λ l. HasNoted l key f.position) (nothing_read b c h) mine)
      ]

  -- Where the loader refuses an event, memory was refused.
  pub refused_by_memory : (f : ErrorReport) → Refuses Takes old r f now s → WantsMemory f
  refused_by_memory f q =
      let c = q.came in
      let begins = stream_begins b.plain c in
      let last : with_events new_loader (all_of c) ≡ with_event_at (with_events new_loader c.events) c.last c.position = events_append new_loader c.events ((c.last, c.position) ∷ []) in
      let same : refused_at (with_events new_loader (old.given ++ all_of c)) ≡ refused_at (with_events new_loader (all_of c)) =
      ap (λ es. refused_at (with_events new_loader es)) (sym c.given) ∙ beside_refused (beside b c) in
      new_fault_wants (with_event_at (with_events new_loader c.events) c.last c.position) (new_fault r new clear c.last c.position q.received q.refuses)
      (λ at. not_refused now.keep_tags begins.0 (old.given ++ all_of c) c.position begins.1 (same ∙ ap refused_at last ∙ at))

-- events without an end finish no document more
pub none_more : (old : Parsed) (es : List (Ev × Position)) (now : Parsed) → HasNoEnd es → now.given ≡ old.given ++ es → finished now ≡ finished old
none_more old es now none are =
    ap (λ xs. documents_of (with_events new_loader xs)) are ∙ ap documents_of (events_append new_loader old.given es) ∙ no_more_documents (with_events new_loader old.given) es none

-- a fault of the parser
pub stops_by_parser : {old now : Parsed} (f : ErrorReport) → IsBetween old → Faults old f now → Stops old f now
stops_by_parser {old} {now} f b h =
    by_parser h.why (plain_after b.plain h.settings) (none_more old h.events now h.no_end h.given)

-- a halt on the way
pub stops_so : {old now : Parsed} (r s : YamlLoader) → IsBetween old → loader_of r ≡ new_loader → kept_fault r ≡ None → (h : Halt) → TakesDocument Takes old r (Err h) now s → Stops old (fault_in h) now
stops_so r s b new clear (halt.Parser f) takes = stops_by_parser f b takes
stops_so r s b new clear (halt.Receiver f) takes = by_memory (refused_by_memory b new clear f takes)
