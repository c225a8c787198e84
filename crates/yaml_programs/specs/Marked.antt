-- Texts that begin with a byte order mark, U+FEFF.
use Rattle.std.specs.Prelude.{◌≡◌, ℕ, ◌⊎◌, List, Some, None, drop}
use Rattle.std.specs.Str.Pattern.{FindsCharPrefix}

-- what is left of a text without the mark at its start, if it has one
abbrev pub IsUnmarked : (text rest : List ℕ) → Type 0
IsUnmarked text rest =
    ((n : ℕ) × FindsCharPrefix 0xFEFF text (Some n) × (rest ≡ drop n text)) ⊎ (FindsCharPrefix 0xFEFF text None × (rest ≡ text))
