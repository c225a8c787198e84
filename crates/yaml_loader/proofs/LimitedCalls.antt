-- What the reading of one document within limits does, from what its guard was handed, and what a call gives, from what was read so.
use Rattle.yaml_loader.proofs.LimitedCommon.{[], all_of, ap, append_assoc, AreWithin, arith, BeginsEvents, Bool, by_memory, by_nodes, by_tokens, CameFrom, characters_are_the_text, documents_of, Err, error_by, error_of, ErrorReport, Ev, Excess, false, false_from_ne_true, Faults, Gives, GoesOver, Guard, Guards, HasDocuments, HasNoNul, HasRead, HoldsBack, inl, inr, is_end, is_read, IsBetween, IsExcess, IsRead, IsReadWithin, IsReady, IsSome, IsTooLarge, IsWithin, items_view, items_view_push, length, Limits, LimitsError, List, loader_of, Made, made, made_by, new_loader, None, none_more, nothing_made, Ok, Option, option_to_list, Parse, Parsed, parsed, Position, read_so, ReadsOne, ReadsWithin, refl, refused_by_memory, Refuses, Result, same_last, Scans, ScansIn, Some, stops_by_key, stream_of, subst, sym, Takes, TakesAll, Tree, true, true≢false, up_to_nul, view, with_events, Yaml, YamlLoader, ℕ, ◌++◌, ◌<◌, ◌∙◌, ◌∷◌, ◌≡◌}
use Rattle.yaml_loader.specs.OneDocument.{finished}
use Rattle.yaml_loader.proofs.DocumentTexts.{text_begins, says_document, says_all, says_stop, answered, fault_adds}
use Rattle.yaml_loader.specs.LimitedOneByOne.{LimitedStream, ComesNext, IsStoppedWithin, stopped, too_deep, too_large, too_many, is_last, Adds, Says, GivesWithin}
use Rattle.yaml_loader.specs.declared.limits_error.LimitsError.TheVariants as error
use Rattle.yaml_loader.proofs.Beside.{beside_has}
use Rattle.yaml_loader.proofs.LoadLemmas.{stands}
use Rattle.yaml_loader.proofs.DocumentSteps.{no_end_more}
use Rattle.yaml_loader.specs.declared.count.Excess.TheVariants as excess
use Rattle.yaml_loader.proofs.LimitedLemmas.{documents_within, held_back, IsFresh, made_last, took, took_within, took_excess}

-- the last of several trees within limits
last_within : (limits : Limits) (ts : List Tree) (t : Tree) → AreWithin limits (ts ++ t ∷ []) → AreWithin limits (t ∷ [])
last_within limits [] t h = h
last_within limits (s ∷ ts) t h =
    let size = h.size in
    last_within limits ts t (record { size = omega arith; levels = h.levels.1 })

-- ---- the event that goes over the limits ends no document

ends_make_nothing : (e : Ev) → is_end e ≡ true → (m : Made) → made_by m e ≡ m
ends_make_nothing Ev.document_end h m = refl
ends_make_nothing Ev.stream_end h m = refl
ends_make_nothing _ h m = cc

module _ {old now : Parsed} {limits : Limits} {g n : Guard YamlLoader} (b : IsBetween old) (start : IsFresh limits g) where
  inner : TakesAll (Guards Takes) old g now n → TakesAll Takes old g.receiver now n.receiver
  inner t = record { came = t.came; is_end = t.is_end; ended = t.ended; received = (took Takes start.new.counts t.received).received; less = t.less }

  small : (xs ys : List Yaml) (y : Yaml) → TakesAll (Guards Takes) old g now n → HasDocuments (loader_of n.receiver) (items_view xs) → xs ≡ ys ++ y ∷ [] → ReadsOne old (view y) now → IsReadWithin g.count.limits old now y
  small xs ys y t has e one =
      let c = t.came in
      let k = took Takes start.new.counts t.received in
      let within = took_within Takes (all_of c) k in
      let mine : HasDocuments (with_events new_loader (all_of c)) (items_view xs) = beside_has (items_view xs) (stands g.receiver start.empty start.clear k.received).beside has in
      let fits : AreWithin g.count.limits (items_view xs) = documents_within g.count.limits (all_of c) (items_view xs) within mine in
      let v : Ev × Position = (c.last, c.position) in
      let w : Ev × Position = (Ev.document_end, one.last.position) in
      let last : v ≡ w = same_last (old.given ++ c.events) one.last.before v w (append_assoc old.given c.events (v ∷ []) ∙ sym c.given ∙ one.last.given) in
      let is : all_of c ≡ c.events ++ w ∷ [] = ap (λ x. c.events ++ x ∷ []) last in
      record {
        events = c.events;
        position = one.last.position;
        no_end = c.no_end;
        given = c.given ∙ ap (λ es. old.given ++ es) is;
        within = subst (λ es. IsWithin g.count.limits (made es)) is within;
        document = last_within g.count.limits (items_view ys) (view y) (subst (AreWithin g.count.limits) (items_view_push ys xs y e) fits);
      }

  -- What the loader gives is the document, if there was one.
  pub read_within : (xs ys : List Yaml) (o : Option Yaml) → TakesAll (Guards Takes) old g now n → HasDocuments (loader_of n.receiver) (items_view xs) → xs ≡ ys ++ option_to_list o → (0 < length xs → IsSome o)
      → ReadsWithin limits old (Ok o) now
  read_within xs ys None t has e some = (read_so b start.empty start.clear xs ys None (inner t) has e some, tt)
  read_within xs ys (Some y) t has e some =
      let reads = read_so b start.empty start.clear xs ys (Some y) (inner t) has e some in
      (reads, subst (λ l. IsReadWithin l old now y) start.of_limits (small xs ys y t has e reads))

  -- a key that came twice
  pub stops_within : (f : ErrorReport) → TakesAll (Guards Takes) old g now n → Gives n.receiver (Err f) → ReadsWithin limits old (Err (error.Scan f)) now
  stops_within f t gives = stops_by_key b start.empty start.clear f (inner t) gives

  -- The guard refuses an event.
  over_so : (exceeds : Made → Type 0) (f : ErrorReport) (q : Refuses (Guards Takes) old g f now n) → (IsWithin g.count.limits (made q.came.events) → exceeds (made q.came.events) → ⊥) → exceeds (made (q.came.events ++ (q.came.last, q.came.position) ∷ [])) → GoesOver g.count.limits exceeds old now q.came.position
  over_so exceeds f q apart over =
      let c = q.came in
      let within = took_within Takes c.events (took Takes start.new.counts q.received) in
      let no_end : is_end c.last ≡ false = false_from_ne_true (is_end c.last)
      (λ h. apart within (subst exceeds (made_last nothing_made c.events c.last c.position ∙ ends_make_nothing c.last h (made c.events)) over)) in
      record {
        events = c.events;
        last = c.last;
        no_end = no_end_more c.events c.last c.position c.no_end no_end;
        given = c.given;
        is_read = is_read b.plain c;
        within = within;
        over = over;
      }

  exceeds_so : (f : ErrorReport) (q : Refuses (Guards Takes) old g f now n) (x : Excess) → IsExcess x g.count.limits (made (q.came.events ++ (q.came.last, q.came.position) ∷ []))
      → ReadsWithin g.count.limits old (Err (error_of x q.came.position)) now
  exceeds_so f q excess.Levels over = over_so (λ m. g.count.limits.levels < m.levels) f q (λ within more. omega (arith, within.levels, more)) over
  exceeds_so f q excess.Size over = by_nodes (over_so (λ m. g.count.limits.size < m.size) f q (λ within more. omega (arith, within.size, more)) over)
  exceeds_so f q excess.OutOfMemory over = by_memory (record { memory = refl; text = refl })

  pub refuses_within : (f : ErrorReport) → Refuses (Guards Takes) old g f now n → ReadsWithin limits old (Err (error_by n.stopped f)) now
  refuses_within f q =
      let k = took Takes start.new.counts q.received in
      subst (λ l. ReadsWithin l old (Err (error_by n.stopped f)) now) start.of_limits (elim q.refuses.refuses [
        | inl h ↦
            let inside : Refuses Takes old g.receiver f now n.receiver = record { came = q.came; before = q.before.receiver; received = k.received; refuses = h.1 } in
            subst (λ s. ReadsWithin g.count.limits old (Err (error_by s f)) now) (sym (h.0 ∙ k.goes_on ∙ start.new.goes_on)) (by_memory (refused_by_memory b start.empty start.clear f inside))
        | inr h ↦ subst (λ s. ReadsWithin g.count.limits old (Err (error_by s f)) now) (sym h.1)
            (exceeds_so f q h.0 (took_excess Takes q.came.events q.came.last q.came.position h.0 k h.3))
      ])

-- Too many tokens wait.
pub holds_within : {old now : Parsed} (limits : Limits) (f : ErrorReport) (p : Position) → Faults old f now → HoldsBack limits now.scanner.backlog p → ReadsWithin limits old (Err (error.Size p)) now
holds_within {old} {now} limits f p h holds = by_tokens (record { same = none_more old h.events now h.no_end h.given; holds = holds })

-- ---- what a call gives

-- before the first call
pub ready_at_start : (p : Parsed) → p.given ≡ [] → p.fault ≡ None → p.ended ≡ false → p.keep_tags ≡ false → p.steady ≡ true → IsReady p false
ready_at_start p given fault ended keep_tags steady = record {
  between = λ h. record {
    going = record { fault = fault; ended = ended };
    plain = record { keep_tags = keep_tags; steady = steady };
    read = subst (λ es. HasRead (Ok (documents_of (with_events new_loader es))) (with_events new_loader es)) (sym given) (refl, refl, refl);
    last = inl given;
  };
}

module _ (limits : Limits) {old : Parsed} (now : Parsed) (b : IsBetween old) where
  -- the events that were read come next in the text
  comes : (text : List ℕ) (es : List (Ev × Position)) → IsRead now → now.given ≡ old.given ++ es → ScansIn text now.scanner → ComesNext text (finished old) es
  comes text es read given scans = record { before = old.given; read = b.read; begins = subst (BeginsEvents false text) given (text_begins now text read scans) }

  same_documents : {exceeds : Made → Type 0} {p : Position} → GoesOver limits exceeds old now p → finished now ≡ finished old
  same_documents {p = p} h = none_more old (h.events ++ (h.last, p) ∷ []) now h.no_end h.given

  comes_over : {exceeds : Made → Type 0} {p : Position} (text : List ℕ) → (h : GoesOver limits exceeds old now p) → ScansIn text now.scanner → ComesNext text (finished now) (h.events ++ (h.last, p) ∷ [])
  comes_over {p = p} text h scans = subst (λ ts. ComesNext text ts (h.events ++ (h.last, p) ∷ [])) (sym (same_documents h)) (comes text (h.events ++ (h.last, p) ∷ []) h.is_read h.given scans)

  says_large : (text : List ℕ) (p : Position) → IsTooLarge limits old now p → ScansIn text now.scanner → IsStoppedWithin limits text (finished now) (error.Size p)
  says_large text p (by_nodes h) scans = too_large h.events h.last p h.no_end (comes_over text h scans) h.within h.over
  says_large text p (by_tokens h) scans = let w = held_back limits text now.scanner.backlog p scans.waits h.holds in too_many w.0 p w.1 w.2

  same_large : (p : Position) → IsTooLarge limits old now p → finished now ≡ finished old
  same_large p (by_nodes h) = same_documents h
  same_large p (by_tokens h) = h.same

  adds_so : (r : Result (Option Yaml) LimitsError) → ReadsWithin limits old r now → Adds (finished old) (answered r) (finished now)
  adds_so (Ok (Some t)) h = h.0.added
  adds_so (Ok None) h = h.0.same
  adds_so (Err (error.Scan f)) h = fault_adds f h
  adds_so (Err (error.Levels p)) h = same_documents h
  adds_so (Err (error.Size p)) h = same_large p h

  says_so : (r : Result (Option Yaml) LimitsError) (text : List ℕ) → ReadsWithin limits old r now → ScansIn text now.scanner → Says limits text (finished old) (answered r) (finished now)
  says_so (Ok (Some t)) text h scans = (
    says_document (view t) text h.0 scans,
    record { events = h.1.events; position = h.1.position; no_end = h.1.no_end; comes = comes text _ h.0.is_read h.1.given scans; within = h.1.within; document = h.1.document },
  )
  says_so (Ok None) text h scans = says_all text h.0 scans
  says_so (Err (error.Scan f)) text h scans = stopped f (says_stop f text h scans)
  says_so (Err (error.Levels p)) text h scans = too_deep h.events h.last p h.no_end (comes_over text h scans) h.within h.over
  says_so (Err (error.Size p)) text h scans = says_large text p h scans

abbrev at : {T : Type 0} → Limits → Parse T → Bool → LimitedStream T
at limits p over = record { stream = stream_of p over; limits = limits }

-- where it was not over
pub gives : {T : Type 0} (steps : T → Option ℕ → T → Type 0) (limits : Limits) (old new : Parse T) → CameFrom steps new.start (parsed new).scanner.taken (parsed new).scanner.done
    → HasNoNul (parsed new).scanner.taken → Scans (parsed new).scanner → IsBetween (parsed old)
    → {over : Bool} {s : LimitedStream T} → at limits old over ≡ s → over ≡ false → new.start ≡ old.start
    → (r : Result (Option Yaml) LimitsError) (last : Bool) → last ≡ is_last (answered r) → ReadsWithin limits (parsed old) r (parsed new) → GivesWithin steps s (answered r) (at limits new last)
gives steps limits old new came no_nul scans b is off start r last over reads = subst (λ z. GivesWithin steps z (answered r) (at limits new last)) (ap (at limits old) (sym off) ∙ is) (record {
  start = start;
  limits = refl;
  again = λ h. absurd (true≢false (sym h));
  over = over;
  adds = adds_so limits (parsed new) b r reads;
  says = λ going all always.
      says_so limits (parsed new) b r (up_to_nul all) reads (scans.scans (up_to_nul all)
      (characters_are_the_text steps old.start all (parsed new).scanner always (subst (λ i. CameFrom steps i (parsed new).scanner.taken (parsed new).scanner.done) start came) no_nul));
})
