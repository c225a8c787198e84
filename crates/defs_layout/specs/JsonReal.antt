-- The reals that JSON can write, by their texts. RFC 8259, section 6.
use Rattle.std.specs.Prelude.{ℕ, Bool, false, ◌&&◌, ◌==◌, is_none, List, [], ◌∷◌}
use Rattle.defs_tree.specs.Grammar.{one, optional, in_order}
use Rattle.defs_tree.specs.Typing.{is_minus, is_exponent, signed_decimal}
use Rattle.defs_layout.specs.JsonNumber.{is_whole, are_digits}
use Rattle.defs_layout.specs.Marks.{point}

-- a point and at least one digit
abbrev pub is_frac : List ℕ → Bool
is_frac [] = false
is_frac (c ∷ w) = (c == point) && are_digits w

-- `[ minus ] int [ frac ] [ exp ]`
unfoldable pub is_json_number : List ℕ → Bool
is_json_number = in_order (optional (one is_minus) ∷ is_whole ∷ optional is_frac ∷ optional is_exponent ∷ [])

-- a number that is no integer of 64 bits, as which it would be read back
abbrev pub is_json_real : List ℕ → Bool
is_json_real s = is_json_number s && is_none (signed_decimal s)
