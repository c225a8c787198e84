-- The first documents of a text, and why no more come. YAML 1.2, sections 3.1 (construction) and 9.2 (streams).
use Rattle.std.specs.Prelude.{◌≡◌, ℕ, Bool, false, List, [], ◌∷◌, ◌++◌, Ok, Err}
use Rattle.defs_text.specs.Position.{Position}
use Rattle.defs_tree.specs.Tree.{Tree}
use Rattle.yaml_tokens.specs.ErrorReport.{ErrorReport}
use Rattle.defs_event.specs.Event.{Ev}
use Rattle.defs_event.specs.Nested.{NestedDocument, nested_stream}
use Rattle.defs_event.specs.Reading.{reading}
use Rattle.defs_event.specs.Stream.{events_of}
use Rattle.defs_event.specs.Unfinished.{new_loader, with_events, documents_of}
use Rattle.yaml_loader.specs.Loads.{HasNoted}
use Rattle.yaml_loader.specs.RepeatedKey.{TellsKey}
use Rattle.proof_loads.specs.TextEvents.{BeginsEvents, IsFaultOf}

-- The text's events begin with those of these documents: they would be a nested stream if the stream ended here.
pub record BeginsDocuments (keep_tags : Bool) (text : List ℕ) (events : List (Ev × Position)) (documents : List NestedDocument) : Type 0 where
  pub begins : BeginsEvents keep_tags text events
  pub nested : events_of events ++ Ev.stream_end ∷ [] ≡ nested_stream documents

-- The text's first documents are read as these trees.
pub record BeginsAs (keep_tags : Bool) (text : List ℕ) (trees : List Tree) : Type 0 where
  pub events : List (Ev × Position)
  pub documents : List NestedDocument
  pub begins : BeginsDocuments keep_tags text events documents
  pub trees_are : reading documents ≡ Ok trees

-- Why no document comes after these trees, the first of the text.
pub data IsStopped (keep_tags : Bool) (text : List ℕ) (trees : List Tree) (f : ErrorReport) : Type 0 where
  -- The scanner or the parser has this fault, or memory was refused.
  of_parser : IsFaultOf keep_tags text f → IsStopped keep_tags text trees f
  -- In the next document a key comes twice. The fault has the position of the event that ends the key's second value, and tells the key.
  repeated_key : (events : List (Ev × Position)) (documents : List NestedDocument) → BeginsDocuments keep_tags text events documents
      → (key : Tree) → reading documents ≡ Err key → documents_of (with_events new_loader events) ≡ trees
      → HasNoted (with_events new_loader events) key f.position → TellsKey key f.text → f.memory ≡ false → IsStopped keep_tags text trees f
