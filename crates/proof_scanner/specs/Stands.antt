-- Colons next to what stands before them, as the scanner holds it.
use Rattle.std.specs.Prelude.{◌≡◌, ℕ, ◌+◌, List, ◌++◌, true, false, ◌==◌, length}
use Rattle.proof_lexers.specs.PlainEnds.{begins_token}
use Rattle.defs_text.specs.Position.{Position}
use Rattle.defs_token.specs.Separation.{is_separation}
use Rattle.defs_token.specs.Account.{Before, before_past, is_adjacent}

-- Inside flow a colon may stand next to what stands before the next token, just where the scanner says it.
abbrev pub IsAdjacent : Before → Position → (adjacent_value_at : ℕ) → (rest : List ℕ) → Type 0
IsAdjacent before p adjacent_value_at rest =
    (separation r : List ℕ) → rest ≡ separation ++ r → is_separation false separation r ≡ true → begins_token r ≡ true
    → is_adjacent (before_past before separation) ≡ ((p.index + length separation) == adjacent_value_at)
