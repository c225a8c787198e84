-- Levels of indentation, as clauses see them.
use Rattle.std.specs.Prelude.{ℕ, ◌+◌, ◌≤◌, ◌^◌, List, [], ◌∷◌, Bool, false, not, ◌||◌, if◌then◌else◌, Option, Some, None}
use Rattle.model_scanner.specs.declared.level.Indent.{Indent}

-- the innermost column, and the levels, the innermost first
pub record Columns : Type 0 where
  pub indent : ℕ
  pub indents : List Indent

-- whether the innermost level is one that opens no collection
abbrev pub ends_open : List Indent → Bool
ends_open [] = false
ends_open (d ∷ ds) = not d.needs_block_end

-- where the innermost level opens no collection and the one outside it is a block collection: the column of that one
abbrev pub value_level : List Indent → Option ℕ
value_level [] = None
value_level (d ∷ []) = None
value_level (d ∷ e ∷ ds) = (if d.needs_block_end || not e.needs_block_end then None else Some d.indent)

-- the greatest column that a level may have
abbrev pub deepest : List Indent → ℕ
deepest ds = (if ends_open ds then 2 ^ 63 + 1 else 2 ^ 63)

-- The column of a block collection is that of a character, from 1, and other levels are one deeper.
abbrev pub AreSmall : ℕ → List Indent → Type 0
AreSmall i [] = i ≤ 2 ^ 63
AreSmall i (d ∷ ds) = (i ≤ deepest (d ∷ ds)) × AreSmall d.indent ds
