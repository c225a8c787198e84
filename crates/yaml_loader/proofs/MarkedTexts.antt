-- What a load with positions answers of a text.
use Rattle.yaml_loader.proofs.Common.{[], all_shown, AllFit, AllHaveMarks, AnswersText, AreMarksOf, at_work, BeginsEvents, Bool, Err, ErrorReport, Ev, EventsAreReadAsDefined, false, faulted, Gives, Global, HasDocuments, HasStanding, HasTaken, inl, inr, IsEmpty, IsFaultOf, items_view, List, Loader, loader_of, LoadsText, marked_documents, MarkedLoader, new_loader, no_event, nothing_marked, Ok, one_event, Position, Receives, refl, refused, RefusedTextsWantMemory, Result, subst, sym, TakenTextsAreLoaded, Takes, TakesMarked, Tree, Unfinished, Vec, wants_memory, WantsMemory, whole, with_event_marked, with_events, with_events_marked, Yaml, ℕ, ◌++◌, ◌∷◌, ◌≡◌}
use Rattle.defs_event.specs.Marking as defs
use Rattle.defs_event.specs.MarkLaws.{MarksFitTheirTrees}
use Rattle.yaml_loader.proofs.AnyText.{wants}
use Rattle.yaml_loader.proofs.Beside.{beside_has}
use Rattle.yaml_loader.proofs.GoOnAlike.{alike_beside, reaches}
use Rattle.yaml_loader.proofs.Seen.{all_seen}

-- the loader inside takes the same events
pub inside : {r s : MarkedLoader} {es : List (Ev × Position)} → Receives TakesMarked r es s → Receives Takes r.loader es s.loader
inside no_event = no_event
inside (one_event e p before last) = one_event e p (inside before) last.loads

with_last : (x : defs.Marking) (es : List (Ev × Position)) (e : Ev) (p : Position) → with_events_marked x (es ++ (e, p) ∷ []) ≡ with_event_marked (with_events_marked x es) e p
with_last x [] e p = refl
with_last x (f ∷ es) e p = with_last (with_event_marked x f.0 f.1) es e p

-- the marks are those of the events
marked : {r s : MarkedLoader} {es : List (Ev × Position)} (x : defs.Marking) → Receives TakesMarked r es s → HasStanding r.marking x → HasStanding s.marking (with_events_marked x es)
marked x no_event h = h
marked x (one_event {s = s} {t} {es} e p before last) h = subst (HasStanding t.marking) (sym (with_last x es e p)) (last.marks (with_events_marked x es) (marked x before h))

-- how a load leaves the receiver
abbrev pub Leaves : List ℕ → Result (Unit {0}) ErrorReport → MarkedLoader → Type 0
Leaves text (Ok u) s = HasTaken text s
Leaves text (Err f) s = IsFaultOf false text f

-- an empty loader refuses an event of a text only if memory was refused
pub only_memory : (text : List ℕ) (es : List (Ev × Position)) (e : Ev) (p : Position) (r s t : MarkedLoader) (f : ErrorReport) → RefusedTextsWantMemory → IsEmpty r
    → BeginsEvents false text (es ++ (e, p) ∷ []) → Receives TakesMarked r es s → TakesMarked s e p (Err f) t → WantsMemory f
only_memory text es e p r s t f law empty begins received takes =
    elim takes.reason [ inl w ↦ wants w | inr k ↦ law false text es e p r.loader s.loader t.loader f empty.loader empty.no_fault begins (inside received) k ]

left_by : {text : List ℕ} {r s : MarkedLoader} {result : Result (Unit {0}) ErrorReport} → RefusedTextsWantMemory → IsEmpty r → AnswersText TakesMarked false text r result s → Leaves text result s
left_by {r = r} law empty (whole es has received) = record { events = es; has = has; before = r; is_empty = empty; took = received }
left_by law empty (faulted es why comes received) = why
left_by {text} {r} law empty (refused {s = s} {t = t} {f = f} es e p begins received takes) = wants_memory (only_memory text es e p r s t f law empty begins received takes)

pub leaves : {text : List ℕ} {r s : MarkedLoader} {result : Result (Unit {0}) ErrorReport} {keep_tags : Bool} → RefusedTextsWantMemory → IsEmpty r → keep_tags ≡ false → AnswersText TakesMarked keep_tags text r result s
    → Leaves text result s
leaves {text} {r} {s} {result} law empty keep answered = left_by law empty (subst (λ k. AnswersText TakesMarked k text r result s) keep answered)

-- ---- the trees and their marks

-- a loader with these documents
at_work_with : (x : Loader) (documents : List Tree) → HasDocuments x documents → (u : Unfinished) × ((x ≡ at_work u) × (u.documents ≡ documents))
at_work_with (at_work u) documents h = (u, (refl, h))
at_work_with x documents h = absurd h

-- The trees that the loader gives have their marks, and these are those of the text.
pub gives_marks : {text : List ℕ} {s : MarkedLoader} (documents : Vec Yaml Global) → EventsAreReadAsDefined → MarksFitTheirTrees → HasTaken text s → Gives s.loader (Ok documents)
    → AllHaveMarks s.marking.table.items (items_view documents.items) s.marking.documents.items
    × AreMarksOf false text (all_shown s.marking.table.items (items_view documents.items) s.marking.documents.items)
gives_marks {text} {s} documents law fit left gives =
    let es = left.events in
    let alike = law left.before.loader s.loader es left.is_empty.loader (reaches (inside left.took)) in
    let has = beside_has (items_view documents.items) (alike_beside {l = with_events new_loader es} {m = loader_of s.loader} alike) gives in
    let w = at_work_with (with_events new_loader es) (items_view documents.items) has in
    let fits : AllFit (items_view documents.items) (marked_documents es) = subst (λ ts. AllFit ts (marked_documents es)) w.1.1 (fit es w.0 w.1.0) in
    let stands = marked nothing_marked left.took left.is_empty.marks in
    let seen = all_seen s.marking.table.items (items_view documents.items) s.marking.documents.items (marked_documents es) stands.of_documents fits in
    (seen.0, (es, left.has, sym seen.1))

-- what the loader gives is what a load gives
pub gives_documents : {text : List ℕ} {s : MarkedLoader} (result : Result (Vec Yaml Global) ErrorReport) → TakenTextsAreLoaded → HasTaken text s → Gives s.loader result → LoadsText false text result
gives_documents {text} {s} result law left gives = law false text left.events left.before.loader s.loader result left.is_empty.loader left.is_empty.no_fault left.has (inside left.took) gives
