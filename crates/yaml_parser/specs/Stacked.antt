-- The states that are awaited, the next first.
use Rattle.std.specs.Prelude.{List, [], ◌∷◌, ◌++◌, reverse, Bool, if◌then◌else◌}
use Rattle.model_parser.specs.declared.state.State.{State}
use Rattle.model_parser.specs.declared.state.State.TheVariants.{Stream}

abbrev pub stacked : Bool → List State → List State
stacked fresh states = reverse states ++ (if fresh then Stream ∷ [] else [])
