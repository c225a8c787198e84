-- A text has at most one list of events, and means at most one list of trees.
use Rattle.std.specs.Prelude.{Result, Ok, map, ◌++◌}
use Rattle.proof_row.proofs.Common.{[], ap, List, Position, refl, subst, ◌∙◌, ◌∷◌, ◌≡◌, arith}
use Rattle.defs_tree.specs.Tree.{Tree}
use Rattle.defs_token.specs.Toks.{toks}
use Rattle.defs_event.specs.Event.{Ev}
use Rattle.defs_event.specs.Stream.{IsStream, events_of}
use Rattle.defs_event.specs.Nested.{NestedDocument, nested_stream}
use Rattle.defs_event.specs.Reading.{reading}
use Rattle.defs_event.specs.Unfinished.{Loader, new_loader, with_events}
use Rattle.defs_event.specs.Laws.{HasRead}
use Rattle.defs_event.proofs.OneByOne.{one_by_one}
use Rattle.defs_event.proofs.OneReading as grammar
use Rattle.defs_event.specs.Meaning.{OneListOfEvents, OneMeaning}
use Rattle.proof_row.proofs.OneRow.{one_reading}

pub one_list_of_events : OneListOfEvents
one_list_of_events keep_tags text es fs x y =
    let same : toks y.tokens ≡ toks x.tokens = ap toks (one_reading text y.tokens x.tokens y.has x.has) in
    grammar.one_list keep_tags (toks x.tokens) es fs x.stream (subst (λ ts. IsStream keep_tags ts fs) same y.stream)

-- ---- trees

-- an event at a position that does not count
abbrev pub somewhere : Ev → Ev × Position
somewhere e = (e, record { index = 0; line = 1; col = 0 })

pub with_somewhere : (es : List (Ev × Position)) (fs : List Ev) → events_of (es ++ map somewhere fs) ≡ events_of es ++ fs
with_somewhere (e ∷ es) fs = ap (λ vs. e.0 ∷ vs) (with_somewhere es fs)
with_somewhere [] (f ∷ fs) = ap (λ vs. f ∷ vs) (with_somewhere [] fs)
with_somewhere [] [] = refl

pub read_again : (r q : Result (List Tree) Tree) (x : Loader) → HasRead r x → HasRead q x → {trees : List Tree} → q ≡ Ok trees → r ≡ Ok trees
read_again r a x h k e = grind arith

pub one_meaning : OneMeaning
one_meaning keep_tags text ts us x y =
    let first : List NestedDocument = x.read.documents in
    let second : List NestedDocument = y.read.documents in
    let same : toks y.tokens ≡ toks x.tokens = ap toks (one_reading text y.tokens x.tokens y.has x.has) in
    let events = grammar.one_list keep_tags (toks x.tokens) (nested_stream first) (nested_stream second) x.read.stream (subst (λ z. IsStream keep_tags z (nested_stream second)) same y.read.stream) in
    let es : List (Ev × Position) = map somewhere (nested_stream first) in
    let are : events_of es ≡ nested_stream first = with_somewhere [] (nested_stream first) in
    let again : reading first ≡ Ok us =
    read_again (reading first) (reading second) (with_events new_loader es) (one_by_one first es are) (one_by_one second es (are ∙ events)) y.read.trees_are in
    cc
