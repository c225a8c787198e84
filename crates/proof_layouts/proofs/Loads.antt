-- Events that are read as trees, handed to a loader one by one.
use Rattle.proof_layouts.proofs.Common.{arith, [], ap, Bool, Ev, events_of, ForetoldEventsAreNotRefused, IsAtWork, IsStream, List, map, nested_stream, NestedDocument, Ok, ReadAs, reading, ReadStreamsAreLoaded, ReadStreamsAreNotCut, ReadStreamsAreNotRefused, refl, Result, sym, Tok, Tree, ◌++◌, ◌∙◌, ◌∷◌, ◌≡◌}
use Rattle.defs_text.specs.Position.{Position}
use Rattle.defs_event.specs.Unfinished.{Loader, new_loader, with_event_at, with_events}
use Rattle.defs_event.specs.Laws.{HasRead}
use Rattle.defs_event.proofs.OneByOne.{one_by_one}
use Rattle.defs_event.proofs.OneReading.{one_list}

loaded : (ds : List NestedDocument) (trees : List Tree) (events : List (Ev × Position)) → reading ds ≡ Ok trees → events_of events ≡ nested_stream ds
    → HasRead (Ok trees) (with_events new_loader events)
loaded ds trees events reads same = rw reads at (one_by_one ds events same)

-- ---- beginnings

work_on : (l : Loader) (events : List (Ev × Position)) → IsAtWork (with_events l events) → IsAtWork l
work_on l [] h = h
work_on l (e ∷ es) h = let k = work_on (with_event_at l e.0 e.1) es h in grind arith

with_more : (l : Loader) (es fs : List (Ev × Position)) → with_events l (es ++ fs) ≡ with_events (with_events l es) fs
with_more l [] fs = refl
with_more l (e ∷ es) fs = with_more (with_event_at l e.0 e.1) es fs

-- events at a position that does not count
abbrev somewhere : Ev → Ev × Position
somewhere e = (e, record { index = 0; line = 1; col = 0 })

with_somewhere : (es : List (Ev × Position)) (fs : List Ev) → events_of (es ++ map somewhere fs) ≡ events_of es ++ fs
with_somewhere [] [] = refl
with_somewhere [] (f ∷ fs) = ap (λ vs. f ∷ vs) (with_somewhere [] fs)
with_somewhere (e ∷ es) fs = ap (λ vs. e.0 ∷ vs) (with_somewhere es fs)

not_refused : (ds : List NestedDocument) (trees : List Tree) (events : List (Ev × Position)) (more : List Ev) → reading ds ≡ Ok trees → events_of events ++ more ≡ nested_stream ds
    → IsAtWork (with_events new_loader events)
not_refused ds trees events more reads same =
    let whole = loaded ds trees (events ++ map somewhere more) reads (with_somewhere events more ∙ same) in
    work_on (with_events new_loader events) (map somewhere more) (grind (arith, with_more))

-- ---- streams that are read

pub streams_are_loaded : ReadStreamsAreLoaded
streams_are_loaded keep_tags tokens trees events x s =
    loaded x.documents trees events x.trees_are (one_list keep_tags tokens (events_of events) (nested_stream x.documents) s x.stream)

one_reading : (x : Result (List Tree) Tree) (trees : List Tree) (l : Loader) → HasRead x l → HasRead (Ok trees) l → x ≡ Ok trees
one_reading x trees l h k = grind arith

-- whatever documents have the stream's events
pub documents_are_read : (keep_tags : Bool) (tokens : List Tok) (trees : List Tree) (ds : List NestedDocument) → ReadAs keep_tags tokens trees
    → IsStream keep_tags tokens (nested_stream ds) → reading ds ≡ Ok trees
documents_are_read keep_tags tokens trees ds x s =
    let same = with_somewhere [] (nested_stream ds) in
    let events = map somewhere (nested_stream ds) in
    one_reading (reading ds) trees (with_events new_loader events) (one_by_one ds events same)
    (loaded x.documents trees events x.trees_are (same ∙ one_list keep_tags tokens (nested_stream ds) (nested_stream x.documents) s x.stream))

pub streams_are_not_refused : ReadStreamsAreNotRefused
streams_are_not_refused keep_tags tokens trees events more x s =
    not_refused x.documents trees events more x.trees_are (one_list keep_tags tokens (events_of events ++ more) (nested_stream x.documents) s x.stream)

pub foretold_are_not_refused : ForetoldEventsAreNotRefused
foretold_are_not_refused keep_tags before after trees events x foretold =
    let f = foretold after (nested_stream x.documents) x.stream in
    not_refused x.documents trees events f.0 x.trees_are (sym f.1)

pub streams_are_not_cut : ReadStreamsAreNotCut
streams_are_not_cut keep_tags before after trees x none_begins = none_begins after (nested_stream x.documents) x.stream
