-- The bytes of a JSON string that stand as they are.
use Rattle.std.specs.Prelude.{ℕ, Bool, not, ◌||◌, ◌==◌, nat_lt}

-- a quotation mark, a backslash or a control character
abbrev pub ends_run : ℕ → Bool
ends_run c = (c == 34) || (c == 92) || nat_lt c 32

-- none of these
abbrev pub stands : ℕ → Bool
stands c = not (ends_run c)

-- a character of ASCII
abbrev pub is_ascii : ℕ → Bool
is_ascii c = nat_lt c 128
