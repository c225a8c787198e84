-- Why a load answers a fault, of a text.
use Rattle.std.specs.Prelude.{◌≡◌, ℕ, Bool, false, List, Err}
use Rattle.defs_text.specs.Position.{Position}
use Rattle.defs_tree.specs.Tree.{Tree}
use Rattle.yaml_tokens.specs.ErrorReport.{ErrorReport}
use Rattle.defs_event.specs.Event.{Ev}
use Rattle.defs_event.specs.Reading.{reading}
use Rattle.defs_event.specs.Unfinished.{new_loader, with_events}
use Rattle.yaml_loader.specs.Loads.{HasNoted}
use Rattle.yaml_loader.specs.RepeatedKey.{TellsKey}
use Rattle.proof_loads.specs.PlacedEvents.{HasEvents}
use Rattle.proof_loads.specs.TextEvents.{IsFaultOf}

pub data IsUnread (keep_tags : Bool) (text : List ℕ) (f : ErrorReport) : Type 0 where
  -- Memory was refused; or it is the scanner's refusal of the text; or no stream begins with the text's first tokens, and the fault is
  -- about the last of these.
  of_parser : IsFaultOf keep_tags text f → IsUnread keep_tags text f
  -- The text has events in which a key comes twice. The fault has the position of the event that ends the key's second value. If that value
  -- is a scalar or an alias, this is the position of its token. The fault's text tells the key.
  repeated_key : (es : List (Ev × Position)) (h : HasEvents keep_tags text es) (key : Tree) → reading h.documents ≡ Err key
      → HasNoted (with_events new_loader es) key f.position → TellsKey key f.text → f.memory ≡ false → IsUnread keep_tags text f
