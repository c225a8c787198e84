-- Statements over the definitions, each the contract of the function with its name in `laws`.
use Rattle.std.specs.Prelude.{◌≡◌, ℕ, Bool, true, false, List, length, [], None, Result, Ok, Err, All, IsTrue, ◌↔◌}
use Rattle.defs_text.specs.Position.{Position}
use Rattle.defs_tree.specs.Tree.{Tree}
use Rattle.defs_tree.specs.Valid.{IsDistinct, FitsI64}
use Rattle.defs_token.specs.Token.{Tok}
use Rattle.defs_event.specs.Event.{Ev}
use Rattle.defs_event.specs.Raw.{Raw}
use Rattle.defs_event.specs.Stream.{StreamSays, IsStream, events_of}
use Rattle.defs_event.specs.Nested.{NestedDocument, IsNested, is_nested, nested_stream}
use Rattle.defs_event.specs.Reading.{reading}
use Rattle.defs_event.specs.Unfinished.{Loader, at_work, noted, new_loader, with_events, documents_of}
use Rattle.defs_event.specs.PulledList.{given}
use Rattle.defs_event.specs.Push.{well, load}
use Rattle.defs_event.specs.NoAlias.{HasNoAlias}

-- `tokens_are_read_in_one_way`
abbrev pub TokensAreReadInOneWay : Type 0
TokensAreReadInOneWay = (tokens : List Tok) (raws others : List Raw) → StreamSays tokens raws → StreamSays tokens others → raws ≡ others

-- `streams_have_one_reading`
abbrev pub StreamsHaveOneReading : Type 0
StreamsHaveOneReading =
    (keep_tags : Bool) (tokens : List Tok) (events others : List Ev)
    → IsStream keep_tags tokens events → IsStream keep_tags tokens others → events ≡ others

-- `stream_events_are_nested`
abbrev pub StreamEventsAreNested : Type 0
StreamEventsAreNested = (keep_tags : Bool) (tokens : List Tok) (events : List Ev) → IsStream keep_tags tokens events → IsNested events

-- `nesting_test_is_exact`
abbrev pub NestingTestIsExact : Type 0
NestingTestIsExact = (events : List Ev) → IsTrue (is_nested events) ↔ IsNested events

-- `loaded_trees_have_no_alias`
abbrev pub LoadedTreesHaveNoAlias : Type 0
LoadedTreesHaveNoAlias = (events : List (Ev × Position)) → All HasNoAlias (documents_of (with_events new_loader events))

-- `loaded_trees_have_distinct_keys`
abbrev pub LoadedTreesHaveDistinctKeys : Type 0
LoadedTreesHaveDistinctKeys = (events : List (Ev × Position)) → All IsDistinct (documents_of (with_events new_loader events))

-- `loaded_integers_have_64_bits`
abbrev pub LoadedIntegersHave64Bits : Type 0
LoadedIntegersHave64Bits = (events : List (Ev × Position)) → All FitsI64 (documents_of (with_events new_loader events))

-- the loader that a reading leaves: all its documents are finished and nothing is open, or the key that came twice is noted
abbrev pub HasRead : Result (List Tree) Tree → Loader → Type 0
HasRead (Ok trees) (at_work u) = (u.documents ≡ trees) × (u.opened ≡ []) × (u.root ≡ None)
HasRead (Err key) (noted documents k p) = k ≡ key
HasRead _ _ = ⊥

-- `nested_events_are_read_one_by_one`
abbrev pub NestedEventsAreReadOneByOne : Type 0
NestedEventsAreReadOneByOne =
    (documents : List NestedDocument) (events : List (Ev × Position)) → events_of events ≡ nested_stream documents
    → HasRead (reading documents) (with_events new_loader events)

-- `multi_load_pushes_all_events`; faults are numbers here, and there is none
abbrev pub MultiLoadPushesAllEvents : Type 0
MultiLoadPushesAllEvents =
    (documents : List NestedDocument) (events : List (Ev × Position)) → events_of events ≡ nested_stream documents
    → load false true (given ℕ events) ≡ record { pushed = events; ending = well; taken = length events }
