-- A text without NUL.
use Rattle.std.specs.Prelude.{◌≡◌, ℕ, List}
use Rattle.defs_text.specs.Text.{up_to_nul}

-- It goes on to its end.
abbrev pub IsWithoutNul : List ℕ → Type 0
IsWithoutNul a = up_to_nul a ≡ a
