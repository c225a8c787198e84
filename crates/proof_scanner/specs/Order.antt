-- The order of positions in a text.
use Rattle.std.specs.Prelude.{suc, ◌≤◌}
use Rattle.defs_text.specs.Position.{Position}

-- a position is not before another
abbrev pub NotBefore : (p q : Position) → Type 0
NotBefore p q = (p.line ≤ q.line) × (q.line ≤ p.line → p.col ≤ q.col)

-- a position is after another
abbrev pub After : (p q : Position) → Type 0
After p q = (p.line ≤ q.line) × (q.line ≤ p.line → suc p.col ≤ q.col)
