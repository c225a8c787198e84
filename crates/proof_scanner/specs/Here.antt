-- Where an open key may still be one.
use Rattle.std.specs.Prelude.{◌≡◌, ℕ, ◌≤◌, List, false, Option, Some, None}
use Rattle.defs_text.specs.Position.{Position}
use Rattle.defs_text.specs.Text.{is_empty}
use Rattle.model_scanner.specs.State.{Key}

-- whether a position is on a key's line, and the text goes on there
abbrev pub IsLive : Key → Position → (rest : List ℕ) → Type 0
IsLive k p rest = (p.line ≤ k.position.line) × (is_empty rest ≡ false)

-- a column is not right of a key
abbrev pub IsNotRight : Option ℕ → ℕ → Type 0
IsNotRight None k = Unit {0}
IsNotRight (Some n) k = n ≤ k
