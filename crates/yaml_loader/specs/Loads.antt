-- What the loads answer. YAML 1.2, section 3.1 (construction).
use Rattle.std.specs.Prelude.{◌≡◌, List, [], ◌∷◌, ◌++◌, true, false, Some, None, Result, Ok, Err}
use Rattle.defs_text.specs.Position.{Position}
use Rattle.defs_tree.specs.Tree.{Tree}
use Rattle.defs_event.specs.Event.{Ev}
use Rattle.defs_event.specs.Unfinished.{Loader, at_work, noted, new_loader, with_event_at, with_events}
use Rattle.yaml_tokens.specs.ErrorReport.{ErrorReport}
use Rattle.yaml_parser.specs.Loads.{Loads}
use Rattle.yaml_parser.specs.Parsed.{Parsed}
use Rattle.yaml_loader.specs.Loading.{IsNewFault}
use Rattle.yaml_loader.specs.RepeatedKey.{TellsKey}

-- A loader that is at work has these documents.
abbrev pub HasDocuments : Loader → List Tree → Type 0
HasDocuments (at_work u) documents = u.documents ≡ documents
HasDocuments _ documents = ⊥

-- A loader has noted that this key came twice, its second value at this position.
abbrev pub HasNoted : Loader → Tree → Position → Type 0
HasNoted (noted documents noted_key at) key position = (noted_key ≡ key) × (at ≡ position)
HasNoted _ key position = ⊥

-- A receiver that only notes the events that are pushed.
abbrev pub Notes : List (Ev × Position) → Ev → Position → Result (Unit {0}) ErrorReport → List (Ev × Position) → Type 0
Notes events e p result now = now ≡ events ++ (e, p) ∷ []

-- `load` of all documents, from where a parser stood: it pushed these events, of those that it pulled, and answered so.
abbrev pub Pushes : Parsed → List (Ev × Position) → Result (Unit {0}) ErrorReport → Parsed → Type 0
Pushes old events result new = Loads Notes true old [] result new events

-- These are the documents of a load: those that the events which were pushed are read as, one by one.
abbrev pub AreLoaded : Parsed → List Tree → Parsed → Type 0
AreLoaded old documents new = (events : List (Ev × Position)) × Pushes old events (Ok tt) new × HasDocuments (with_events new_loader events) documents

-- Why a load answers this fault.
pub data IsLoadFault (old : Parsed) (f : ErrorReport) (new : Parsed) : Type 0 where
  -- It is the parser's, which is kept.
  parser_fault : (events : List (Ev × Position)) → Pushes old events (Err f) new → new.fault ≡ Some f → IsLoadFault old f new
  -- The last event that was pushed is refused: it stands out of nesting, or memory was refused.
  refused : (events : List (Ev × Position)) (e : Ev) (p : Position) → Pushes old (events ++ (e, p) ∷ []) (Err f) new → new.fault ≡ None
      → IsNewFault f p (with_event_at (with_events new_loader events) e p) → IsLoadFault old f new
  -- All events were pushed, and among them a key came twice, its second value at the fault's position. The fault's text tells the key.
  repeated_key : (events : List (Ev × Position)) (key : Tree) → Pushes old events (Ok tt) new → new.fault ≡ None
      → HasNoted (with_events new_loader events) key f.position → TellsKey key f.text → f.memory ≡ false → IsLoadFault old f new
