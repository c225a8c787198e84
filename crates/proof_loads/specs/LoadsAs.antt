-- How a load of a text ends that is read as trees.
use Rattle.std.specs.Prelude.{◌≡◌, List, [], ◌∷◌, ◌++◌, true, Result, Ok, Err}
use Rattle.defs_text.specs.Position.{Position}
use Rattle.defs_tree.specs.Tree.{Tree}
use Rattle.yaml_tokens.specs.ErrorReport.{ErrorReport}
use Rattle.defs_event.specs.Event.{Ev}
use Rattle.defs_event.specs.Unfinished.{new_loader, with_events}
use Rattle.defs_event.specs.Laws.{HasRead}
use Rattle.defs_event.specs.ReadAs.{IsAtWork}
use Rattle.yaml_parser.specs.Loads.{Receives}

-- The receiver took events after which a loader has just these documents; or the parser wanted memory; or the receiver refused
-- an event after which a loader is at work: no key came twice, and the event stood in its place.
pub data LoadsAs {R : Type 0} (takes : R → Ev → Position → Result (Unit {0}) ErrorReport → R → Type 0) (trees : List Tree) (r : R) : Result (Unit {0}) ErrorReport → R → Type 0 where
  well : {s : R} (es : List (Ev × Position)) → Receives takes r es s → HasRead (Ok trees) (with_events new_loader es) → LoadsAs takes trees r (Ok tt) s
  wants_memory : {s : R} {f : ErrorReport} (es : List (Ev × Position)) → Receives takes r es s → f.memory ≡ true → LoadsAs takes trees r (Err f) s
  refused : {s t : R} {f : ErrorReport} (es : List (Ev × Position)) (e : Ev) (p : Position) → Receives takes r es s → takes s e p (Err f) t → IsAtWork (with_events new_loader (es ++ (e, p) ∷ [])) → LoadsAs takes trees r (Err f) t
