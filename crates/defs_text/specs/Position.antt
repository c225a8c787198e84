-- A position in a text: how many characters stand before it, its line from 1, and its column from 0.
use Rattle.std.specs.Prelude.{ℕ, suc, ◌^◌, ◌<◌, ◌≤◌, List, [], ◌∷◌, ◌++◌, if◌then◌else◌}
use Rattle.defs_text.specs.Breaks.{ends_line}

pub record Position : Type 0 where
  pub index : ℕ
  pub line : ℕ
  pub col : ℕ

-- the numbers of a position in a text of fewer than 2^63 characters
pub record IsSmall (index line col : ℕ) : Type 0 where
  pub small_index : index < 2 ^ 63
  pub small_line : line ≤ 2 ^ 63
  pub small_col : col < 2 ^ 63

-- the position where a text begins
abbrev pub first_position : Position
first_position = record { index = 0; line = 1; col = 0 }

-- the position after a character; the text after it
abbrev pub position_past : Position → ℕ → (next : List ℕ) → Position
position_past p c next =
    (if ends_line c next then record { index = suc p.index; line = suc p.line; col = 0 } else
    record { index = suc p.index; line = p.line; col = suc p.col })

-- the position after a piece of text
abbrev pub position_after : Position → (piece next : List ℕ) → Position
position_after p [] next = p
position_after p (c ∷ r) next = position_after (position_past p c (r ++ next)) r next
