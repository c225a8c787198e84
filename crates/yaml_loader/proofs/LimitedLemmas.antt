-- What a guard hands on, from what its parser did with it, and what a load within limits gives, from what its receiver was handed.
use Rattle.yaml_loader.proofs.LimitedCommon.{[], AnswersText, ap, AreWithin, arith, Backlog, BeginsEvents, by_limits, by_parser, by_receiver, Counts, Err, error_by, error_of, ErrorReport, Ev, Excess, false, faulted, Global, Guard, Guards, Hands, HasDocuments, HasTaken, HoldsBack, IfSome, inl, inr, IsEmpty, IsExcess, IsHanded, IsNew, IsNotHanded, IsWithin, items_view, kept_fault, Limits, LimitsError, List, loader_of, Made, made, made_by, made_from, MarkedLoader, new_loader, no_event, None, nothing_made, of_parser, Ok, one_event, Option, outcome_by, Position, Receives, refl, RefusedTextsWantMemory, Result, Some, subst, sym, TakenEventsAreRead, TakenTextsAreLoaded, Takes, TakesMarked, too_deep, too_large, Tree, Vec, Waits, want_of_memory, wants_memory, whole, with_events, Yaml, YamlLoader, ℕ, ◌++◌, ◌+◌, ◌<◌, ◌∙◌, ◌∷◌, ◌≡◌}
use Rattle.yaml_loader.proofs.MarkedTexts.{inside, only_memory}
use Rattle.yaml_loader.specs.Limited.{IsNotLoaded, unread, over, Answers, GivesAll}
use Rattle.yaml_loader.specs.declared.limits_error.LimitsError.TheVariants as error
use Rattle.yaml_loader.proofs.Trees.{documents_are_made, no_deeper_than}
use Rattle.yaml_loader.specs.declared.count.Excess.TheVariants as excess

pub made_last : (m : Made) (es : List (Ev × Position)) (e : Ev) (p : Position) → made_from m (es ++ (e, p) ∷ []) ≡ made_by (made_from m es) e
made_last m [] e p = refl
made_last m (f ∷ es) e p = made_last (made_by m f.0) es e p

-- more tokens wait than may
pub held_back : (limits : Limits) (text : List ℕ) (backlog : Option Backlog) (p : Position) → IfSome backlog (λ b. Waits text b.mark b.tokens) → HoldsBack limits backlog p
    → (count : ℕ) × Waits text p count × (limits.size + 1000 < count)
held_back limits text None p waits holds = absurd holds
held_back limits text (Some b) p waits holds = (b.tokens, subst (λ q. Waits text q b.tokens) holds.0 waits, holds.1)

-- A guard that took these events, each with `Ok`.
pub record Took {R : Type 0} (takes : R → Ev → Position → Result (Unit {0}) ErrorReport → R → Type 0) (g : Guard R) (es : List (Ev × Position)) (n : Guard R) : Type 0 where
  pub received : Receives takes g.receiver es n.receiver
  pub counts : Counts n.count (made es)
  pub goes_on : n.stopped ≡ g.stopped
  pub limits : n.count.limits ≡ g.count.limits

module _ {R : Type 0} (takes : R → Ev → Position → Result (Unit {0}) ErrorReport → R → Type 0) where
  pub took : {g n : Guard R} {es : List (Ev × Position)} → Counts g.count nothing_made → Receives (Guards takes) g es n → Took takes g es n
  took new no_event = record { received = no_event; counts = new; goes_on = refl; limits = refl }
  took {g} {n} new (one_event {s = s} {es = es} e p before last) =
      let so_far = took new before in
      record {
        received = one_event e p so_far.received last.hands_on;
        counts = subst (Counts n.count) (sym (made_last nothing_made es e p)) (last.counts (made es) so_far.counts);
        goes_on = last.goes_on ∙ so_far.goes_on;
        limits = last.limits ∙ so_far.limits;
      }

  -- what was made is within the limits
  pub took_within : {g n : Guard R} (es : List (Ev × Position)) → Took takes g es n → IsWithin g.count.limits (made es)
  took_within es t = subst (λ l. IsWithin l (made es)) t.limits t.counts.within

  -- what would be made with one event more is not
  pub took_excess : {g s : Guard R} (es : List (Ev × Position)) (e : Ev) (p : Position) (x : Excess) → Took takes g es s → ((m : Made) → Counts s.count m → IsExcess x s.count.limits (made_by m e)) → IsExcess x g.count.limits (made (es ++ (e, p) ∷ []))
  took_excess {g} {s} es e p x t why =
      subst (λ m. IsExcess x g.count.limits m) (sym (made_last nothing_made es e p)) (subst (λ l. IsExcess x l (made_by (made es) e)) t.limits (why (made es) t.counts))

  by_excess : (limits : Limits) (text : List ℕ) (r : R) (es : List (Ev × Position)) (e : Ev) (p : Position) (x : Excess) → BeginsEvents false text (es ++ (e, p) ∷ []) → IsWithin limits (made es)
      → IsExcess x limits (made (es ++ (e, p) ∷ [])) → IsNotHanded takes limits text r (error_of x p)
  by_excess limits text r es e p excess.Levels begins within why = by_limits (error.Levels p) (too_deep es e p begins within why)
  by_excess limits text r es e p excess.Size begins within why = by_limits (error.Size p) (too_large es e p begins within why)
  by_excess limits text r es e p excess.OutOfMemory begins within why = by_parser (want_of_memory p) (wants_memory (record { memory = refl; text = refl }))

  -- What comes of all of it.
  pub handed : (text : List ℕ) (g : Guard R) {outcome : Result (Unit {0}) ErrorReport} {n : Guard R} → IsNew g → AnswersText (Guards takes) false text g outcome n → Hands takes g.count.limits text g.receiver (outcome_by n.stopped outcome) n.receiver
  handed text g new (whole es has received) =
      let t = took new.counts received in
      record { events = es; has = has; received = t.received; within = took_within es t }
  handed text g new (faulted {f = f} es why after received) =
      let t = took new.counts received in
      subst (λ s. IsNotHanded takes g.count.limits text g.receiver (error_by s f)) (sym (t.goes_on ∙ new.goes_on)) (by_parser f why)
  handed text g new (AnswersText.refused {s = s} {f = f} es e p begins received last) =
      let t = took new.counts received in
      elim last.refuses [
        | inl h ↦ subst (λ s. IsNotHanded takes g.count.limits text g.receiver (error_by s f)) (sym (h.0 ∙ t.goes_on ∙ new.goes_on)) (by_receiver es e p begins t.received h.1)
        | inr h ↦ subst (λ s. IsNotHanded takes g.count.limits text g.receiver (error_by s f)) (sym h.1)
            (by_excess g.count.limits text g.receiver es e p h.0 begins (took_within es t) (took_excess es e p h.0 t h.3))
      ]

-- ---- what a load within limits gives

-- documents that a loader made of these events, which are within the limits
pub documents_within : (limits : Limits) (es : List (Ev × Position)) (documents : List Tree) → IsWithin limits (made es) → HasDocuments (with_events new_loader es) documents → AreWithin limits documents
documents_within limits es documents within has =
    let are = documents_are_made es documents has in
    let small = are.0 in
    let most = within.size in
    record { size = omega arith; levels = no_deeper_than documents (made es).levels limits.levels within.levels are.1 }

pub not_loaded : (limits : Limits) (text : List ℕ) (e : LimitsError) → IsNotLoaded limits text e → Answers limits text (Err e)
not_loaded limits text e why = record { reads = tt; within = tt; documents = tt; fault = why }

-- A guard over an empty loader, with these limits, that was handed no event.
pub record IsFresh (limits : Limits) (g : Guard YamlLoader) : Type 0 where
  pub new : IsNew g
  pub empty : loader_of g.receiver ≡ new_loader
  pub clear : kept_fault g.receiver ≡ None
  pub of_limits : g.count.limits ≡ limits

pub fresh : {r : YamlLoader} {limits : Limits} {g : Guard YamlLoader} → loader_of r ≡ new_loader → kept_fault r ≡ None → g.receiver ≡ r
    → Counts g.count nothing_made → g.count.limits ≡ limits → g.stopped ≡ None → IsFresh limits g
fresh empty clear receiver counts limits goes_on =
    record { new = record { counts = counts; goes_on = goes_on }; empty = ap loader_of receiver ∙ empty; clear = ap kept_fault receiver ∙ clear; of_limits = limits }

module _ (taken : TakenTextsAreLoaded) (read : TakenEventsAreRead) (limits : Limits) (text : List ℕ) where
  -- a loader that took all events
  pub loaded : (r s : YamlLoader) (result : Result (Vec Yaml Global) LimitsError) → loader_of r ≡ new_loader → kept_fault r ≡ None → IsHanded Takes limits text r s → GivesAll s result → Answers limits text result
  loaded r s (Ok documents) empty clear h gives = record {
    reads = taken false text h.events r s (Ok documents) empty clear h.has h.received gives;
    within = (h.events, h.has, h.within);
    documents = documents_within limits h.events (items_view documents.items) h.within (read h.events r s (items_view documents.items) empty clear h.received gives);
    fault = tt;
  }
  loaded r s (Err (error.Scan f)) empty clear h gives = not_loaded limits text (error.Scan f) (unread f (taken false text h.events r s (Err f) empty clear h.has h.received gives))
  loaded r s result empty clear h gives = absurd gives

  -- one that takes positions too
  pub loaded_marked : (r s : MarkedLoader) (result : Result (Vec Yaml Global) LimitsError) → IsEmpty r → IsHanded TakesMarked limits text r s → GivesAll s.loader result → Answers limits text result
  loaded_marked r s result empty h gives =
      loaded r.loader s.loader result empty.loader empty.no_fault (record { events = h.events; has = h.has; received = inside h.received; within = h.within }) gives

module _ (want : RefusedTextsWantMemory) (limits : Limits) (text : List ℕ) where
  -- a loader that did not
  pub refused : (r : YamlLoader) {e : LimitsError} → loader_of r ≡ new_loader → kept_fault r ≡ None → IsNotHanded Takes limits text r e → IsNotLoaded limits text e
  refused r empty clear (by_parser f why) = unread f (of_parser why)
  refused r empty clear (by_receiver {s} {t} {f} es e p begins received last) = unread f (of_parser (wants_memory (want false text es e p r s t f empty clear begins received last)))
  refused r empty clear (by_limits x why) = over x why

  pub refused_marked : (r : MarkedLoader) {e : LimitsError} → IsEmpty r → IsNotHanded TakesMarked limits text r e → IsNotLoaded limits text e
  refused_marked r empty (by_parser f why) = unread f (of_parser why)
  refused_marked r empty (by_receiver {s} {t} {f} es e p begins received last) = unread f (of_parser (wants_memory (only_memory text es e p r s t f want empty begins received last)))
  refused_marked r empty (by_limits x why) = over x why

pub taken_all : {limits : Limits} {text : List ℕ} {r s : MarkedLoader} → IsEmpty r → IsHanded TakesMarked limits text r s → HasTaken text s
taken_all {r = r} empty h = record { events = h.events; has = h.has; before = r; is_empty = empty; took = h.received }
