-- Steps from a node of a tree down to another.
use Rattle.std.specs.Prelude.{ℕ, List}

-- a step from a node down: to the item at this place of an array, counted from 0, or to the value of this key of a hash
pub data Step : Type 0 where
  index : ℕ → Step
  key : List ℕ → Step
