-- The state on top is read.
use Rattle.std.specs.Prelude.{◌≡◌, List, ◌∷◌, Result}
use Rattle.model_parser.specs.Rest.{goal_of}
use Rattle.model_parser.specs.declared.state.State.{State}
use Rattle.yaml_parser.specs.declared.reader.Reader.{Reader}
use Rattle.yaml_parser.specs.declared.slot.EventSlot.{EventSlot}
use Rattle.yaml_parser.specs.At.{Reads}
use Rattle.yaml_parser.specs.Work.{Moves, weight}

-- This state is taken from the stack, and its production is read.
pub record ReadsTop {T E : Type 0} (old new : Reader T) (result : Result (Unit {0}) E) (slot : EventSlot) : Type 0 where
  pub state : State
  pub below : List State
  pub top : old.stack ≡ state ∷ below
  pub answers : Reads (goal_of state) (record old { stack = below }) new result slot
  pub bounds : Moves (weight state) 1 (record old { stack = below }) new result
