-- What a load answers, from what its parser did with the loader.
use Rattle.yaml_loader.proofs.Common.{[], All, ap, append-nil, AreLoaded, at_work, bad_value, documents_of, EndsSo, Err, ErrorReport, Ev, Gives, Global, HasDocuments, HasNoAlias, HasNoted, HasRead, IfErr, IfOk, inl, inr, IsGivenFault, IsLoadFault, IsNewFault, items_view, kept_fault, List, LoadedTreesHaveNoAlias, Loader, loader_after, loader_by, loader_of, Loads, new_loader, no_event, None, noted, Notes, Ok, one_event, OnOk, Opened, owned_at, Parsed, Position, Pushes, Receives, refl, repeated_key, Result, String, string_bytes, subst, sym, Takes, TellsBy, TellsKey, TellsNotedKey, Tree, true, unfinished_of, unwrap_or, Vec, with_document_end, with_event_at, with_events, Yaml, YamlLoader, ◌++◌, ◌∙◌, ◌∷◌, ◌≡◌, ◌⊎◌}
use Rattle.defs_event.specs.Push.{load, Loaded}
use Rattle.yaml_loader.specs.declared.loader.LoaderState.{LoaderState}
use Rattle.yaml_loader.specs.declared.loader.LoaderState.TheVariants.{RepeatedKey}
use Rattle.yaml_loader.proofs.Beside.{beside_has, beside_noted, beside_refused, event_at_beside, Same, StandBeside, suits_same, AllSuit, beside_documents, events_beside, may_finish_same, noting, refusing, state, working}
use Rattle.yaml_loader.proofs.GoOnAlike.{alike_beside, read_as_defined, reaches}

pub events_append : (l : Loader) (es fs : List (Ev × Position)) → with_events l (es ++ fs) ≡ with_events (with_events l es) fs
events_append l [] fs = refl
events_append l (e ∷ es) fs = events_append (with_event_at l e.0 e.1) es fs

-- A loader stands as the definitions say after these events, and keeps no fault. If it noted a key, it keeps the text that tells it.
pub record StandsAfter (es : List (Ev × Position)) (l : YamlLoader) : Type 0 where
  pub beside : StandBeside Same [] (with_events new_loader es) (loader_of l)
  pub clear : kept_fault l ≡ None
  pub tells : TellsNotedKey l

-- a loader that is at work has noted no key
nothing_noted : (l : YamlLoader) → (d : LoaderState) → loader_by d (unfinished_of l.reading) ≡ new_loader → TellsBy d (unfinished_of l.reading).opened
nothing_noted l (RepeatedKey position text) e = cc
nothing_noted l d e = tt

-- what stands after a load that went well
abbrev pub Went : Parsed → Parsed → YamlLoader → Type 0
Went old new l = (es : List (Ev × Position)) × Pushes old es (Ok tt) new × (new.fault ≡ None) × StandsAfter es l

-- A receiver that only notes would have these events.
notes : {l n : YamlLoader} {es : List (Ev × Position)} → Receives Takes l es n → Receives Notes [] es es
notes no_event = no_event
notes (one_event e p h takes) = one_event e p (notes h) refl

-- the same load with such a receiver
pushes : {l n : YamlLoader} {old new : Parsed} {es : List (Ev × Position)} {result : Result (Unit {0}) ErrorReport} (h : Loads Takes true old l result new n)
    → EndsSo Notes [] (load old.started true h.answers) h.after result new es → Pushes old es result new
pushes h ends = record { answers = h.answers; after = h.after; pulled = h.pulled; taken = h.taken; ends = ends }

module _ (l : YamlLoader) (empty : loader_of l ≡ new_loader) (clear : kept_fault l ≡ None) where
  pub stands : {n : YamlLoader} {es : List (Ev × Position)} → Receives Takes l es n → StandsAfter es n
  stands {n} {es} received =
      record { beside = alike_beside (read_as_defined l n es empty (reaches received)); clear = keeps received; tells = tells received }
    where
      keeps : {n : YamlLoader} {es : List (Ev × Position)} → Receives Takes l es n → kept_fault n ≡ None
      keeps no_event = clear
      keeps (one_event e p h takes) = takes.goes_on

      tells : {n : YamlLoader} {es : List (Ev × Position)} → Receives Takes l es n → TellsNotedKey n
      tells no_event = nothing_noted l l.state empty
      tells (one_event e p h takes) = takes.tells (tells h)

  pub new_fault : {s t : YamlLoader} {es : List (Ev × Position)} {f : ErrorReport} (e : Ev) (p : Position) → Receives Takes l es s → Takes s e p (Err f) t → IsNewFault f p (with_event_at (with_events new_loader es) e p)
  new_fault {s} {t} {es} {f} e p h takes =
      let before = stands h in
      let same = beside_refused (event_at_beside e p (suits_same e) before.beside) in
      elim (takes.reason before.clear) [ inl w ↦ inl w | inr w ↦ inr (w.0, same ∙ w.1) ]

  -- how a load ends, over the loader that is left
  ended_well : {old after new : Parsed} {n : YamlLoader} (run : Loaded ErrorReport) → ((es : List (Ev × Position)) → EndsSo Notes [] run after (Ok tt) new es → Pushes old es (Ok tt) new)
      → EndsSo Takes l run after (Ok tt) new n → Went old new n
  ended_well run push (EndsSo.well ending clear received) = (run.pushed, push _ (EndsSo.well ending clear (notes received)), clear, stands received)

  ended_ill : {old after new : Parsed} {n : YamlLoader} {f : ErrorReport} (run : Loaded ErrorReport) → ((es : List (Ev × Position)) → EndsSo Notes [] run after (Err f) new es → Pushes old es (Err f) new)
      → EndsSo Takes l run after (Err f) new n → IsLoadFault old f new
  ended_ill run push (EndsSo.faulted ending kept received) = IsLoadFault.parser_fault run.pushed (push _ (EndsSo.faulted ending kept (notes received))) kept
  ended_ill run push (EndsSo.misplaced p ending received) = IsLoadFault.parser_fault run.pushed (push _ (EndsSo.misplaced p ending (notes received))) refl
  ended_ill run push (EndsSo.refused {s} {t} {es} e p pushed clear received takes) =
      IsLoadFault.refused es e p (push _ (EndsSo.refused e p pushed clear (notes received) refl)) clear (new_fault e p received takes)

  pub went_well : {old new : Parsed} {n : YamlLoader} → Loads Takes true old l (Ok tt) new n → Went old new n
  went_well {old} h = ended_well (load old.started true h.answers) (λ es. pushes h) h.ends

  pub load_fault : {old new : Parsed} {n : YamlLoader} {f : ErrorReport} → Loads Takes true old l (Err f) new n → IsLoadFault old f new
  load_fault {old} h = ended_ill (load old.started true h.answers) (λ es. pushes h) h.ends

-- ---- what the loader gives then

-- the fault of a loader that has noted a key that came twice
pub note_given : (l : YamlLoader) (p : Position) (text : String Global) (f : ErrorReport) → l.state ≡ RepeatedKey p text → f ≡ owned_at p (string_bytes text) → IsGivenFault l f
note_given l p text f e is =
    let u = unfinished_of l.reading in
    let key = repeated_key u.opened in
    IsGivenFault.repeated_key key
    (subst (HasNoted (loader_of l) key) (sym (ap (λ x. x.position) is)) (subst (λ d. HasNoted (loader_by d u) key p) (sym e) (refl, refl)))
    (λ tells. subst (TellsKey key) (sym (ap (λ x. x.text) is)) (subst (λ d. TellsBy d u.opened) e tells))
    (ap (λ x. x.memory) is)

had_noted : {old new : Parsed} {f : ErrorReport} (l : YamlLoader) → Went old new l → IsGivenFault l f → IsLoadFault old f new
had_noted l (es, all, clear, after) (IsGivenFault.kept is) = let both = sym after.clear ∙ is in cc
had_noted {f = f} l (es, all, clear, after) (IsGivenFault.repeated_key key has tells owned) =
    IsLoadFault.repeated_key es key all clear (beside_noted key f.position after.beside has) (tells after.tells) owned

no_alias : {old new : Parsed} (documents : List Tree) → LoadedTreesHaveNoAlias → AreLoaded old documents new → All HasNoAlias documents
no_alias documents law (es, all, read) = by (with_events new_loader es) (law es) read
  where
    by : (x : Loader) → All HasNoAlias (documents_of x) → HasDocuments x documents → All HasNoAlias documents
    by (at_work u) h e = subst (λ ts. All HasNoAlias ts) e h
    by x h e = absurd e

-- what a load gives that went well so far
pub load_given : {old new : Parsed} (l : YamlLoader) (result : Result (Vec Yaml Global) ErrorReport) → LoadedTreesHaveNoAlias → Went old new l → Gives l result
    → IfOk result (λ documents. AreLoaded old (items_view documents.items) new) × IfOk result (λ documents. All HasNoAlias (items_view documents.items))
    × OnOk result (new.fault ≡ None) × IfErr result (λ f. IsLoadFault old f new)
load_given {old} {new} l (Ok documents) law went gives =
    let loaded : AreLoaded old (items_view documents.items) new =
    (went.0, went.1, beside_has (items_view documents.items) went.3.beside gives) in
    (loaded, no_alias (items_view documents.items) law loaded, went.2, tt)
load_given l (Err f) law went gives = (tt, tt, tt, had_noted l went gives)

-- ---- what a loader has before and after the end of a document

-- The stream's end changes nothing.
pub end_stays : (l : Loader) (p : Position) → with_event_at l Ev.stream_end p ≡ l
end_stays (at_work u) p = refl
end_stays l p = refl

-- A loader that no event changes stays, as one that has noted a key, or refused an event.
pub stays : (l : Loader) → ((e : Ev) (p : Position) → with_event_at l e p ≡ l) → (es : List (Ev × Position)) → with_events l es ≡ l
stays l h [] = refl
stays l h (e ∷ es) = ap (λ x. with_events x es) (h e.0 e.1) ∙ stays l h es

-- ---- events only add documents

-- the loader beside the one without its documents
without_documents : (l : Loader) → (m : Loader) × StandBeside Same (documents_of l) l m
without_documents (at_work u) =
    let same = ap (λ ds. state ds u.opened u.root u.anchors) (sym (append-nil u.documents)) in
    (at_work (state [] u.opened u.root u.anchors), working (record { is = same; anchors = λ n. refl; opened = may_finish_same u.opened }))
without_documents (noted ds key p) = (noted [] key p, noting (sym (append-nil ds)))
without_documents (Loader.refused ds p) = (Loader.refused [] p, refusing (sym (append-nil ds)))

all_suit : (es : List (Ev × Position)) → AllSuit Same es
all_suit [] = tt
all_suit (e ∷ es) = (suits_same e.0, all_suit es)

pub documents_grow : (l : Loader) (es : List (Ev × Position)) → (more : List Tree) × (documents_of (with_events l es) ≡ documents_of l ++ more)
documents_grow l es = let b = without_documents l in (documents_of (with_events b.0 es), beside_documents (events_beside es (all_suit es) b.1))

-- ---- a loader that has read

pub has_are : (x : Loader) (ds : List Tree) → HasDocuments x ds → documents_of x ≡ ds
has_are (at_work u) ds h = h
has_are x ds h = absurd h

pub read_has : (x : Loader) (ds : List Tree) → HasRead (Ok ds) x → HasDocuments x ds
read_has (at_work u) ds h = h.0
read_has x ds h = absurd h

pub read_documents : (x : Loader) (ds : List Tree) → HasRead (Ok ds) x → documents_of x ≡ ds
read_documents x ds h = has_are x ds (read_has x ds h)

pub was_read : (r : Result (List Tree) Tree) (x : Loader) (ds : List Tree) → HasRead r x → HasDocuments x ds → r ≡ Ok ds
was_read (Ok trees) (at_work u) ds h has = ap Ok (sym h.0 ∙ has)
was_read (Err key) (at_work u) ds h has = absurd h
was_read r x ds h has = absurd has

pub was_noted : (r : Result (List Tree) Tree) (x : Loader) (key : Tree) (p : Position) → HasRead r x → HasNoted x key p → r ≡ Err key
was_noted (Ok trees) (noted ds k q) key p h has = absurd h
was_noted (Err other) (noted ds k q) key p h has = ap Err (sym h ∙ has.0)
was_noted r x key p h has = absurd has

-- ---- after a document's end

-- It has read one tree; or it has none.
abbrev pub HasOneOrNone : Loader → Type 0
HasOneOrNone l = ((t : Tree) × HasRead (Ok (t ∷ [])) l) ⊎ ((documents_of l ≡ []) × ((ds : List Tree) → HasDocuments l ds → ⊥))

pub end_reads : (l : Loader) (p : Position) → documents_of l ≡ [] → HasOneOrNone (with_event_at l Ev.document_end p)
end_reads (at_work u) p e = by u.opened refl
  where
    by : (os : List Opened) → u.opened ≡ os → HasOneOrNone (loader_after (with_document_end u os) u.documents p)
    by [] k = inl (unwrap_or u.root bad_value, (ap (λ ds. ds ++ unwrap_or u.root bad_value ∷ []) e, k, refl))
    by (c ∷ os) k = inr (e, λ ds h. h)
end_reads l p e = inr (e, λ ds h. h)
