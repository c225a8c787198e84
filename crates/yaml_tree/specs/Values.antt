-- The beginnings of plain texts that may stand for anything but their own string.
use Rattle.std.specs.Prelude.{ℕ, ◌==◌, Bool, false, ◌&&◌, ◌||◌, List, [], ◌∷◌}
use Rattle.std.specs.Char.{is_ascii_digit}
use Rattle.defs_tree.specs.Typing.{is_sign, is_point}

-- `i` or `I`
abbrev pub begins_infinity : ℕ → Bool
begins_infinity c = (c == 105) || (c == 73)

-- `n` or `N`
abbrev pub begins_nan : ℕ → Bool
begins_nan c = (c == 110) || (c == 78)

-- `.` and the first letter of a word, or a sign, `.` and the first letter of a word for infinity
abbrev pub begins_special : List ℕ → Bool
begins_special (c ∷ d ∷ e ∷ cs) =
    (is_sign c && (is_point d && begins_infinity e)) || (is_point c && (begins_infinity d || begins_nan d))
begins_special (c ∷ d ∷ []) = is_point c && (begins_infinity d || begins_nan d)
begins_special _ = false

-- the byte is the first of a word of null, true or false other than the empty one: `~`, `n`, `t`, `T`, `f` or `F`
abbrev pub begins_word : ℕ → Bool
begins_word c = (c == 126) || ((c == 110) || ((c == 116) || ((c == 84) || ((c == 102) || (c == 70)))))

-- it may be the first of a text that stands for anything but its own string
abbrev pub begins_value : ℕ → Bool
begins_value c = is_ascii_digit c || (is_sign c || (is_point c || begins_word c))
