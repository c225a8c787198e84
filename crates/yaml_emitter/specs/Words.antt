-- The words that the code tells apart.
use Rattle.std.specs.Prelude.{ℕ, Bool, false, not, ◌&&◌, ◌||◌, List, [], ◌∷◌, codes}
use Rattle.std.specs.Char.{is_ascii_alphabetic, is_ascii_lowercase}
use Rattle.std.specs.List.{list_any}
use Rattle.defs_tree.specs.Grammar.{is_among}
use Rattle.defs_text.specs.Text.{is_empty}
use Rattle.defs_tree.specs.Quoting.{has_outer_space, has_indicator_first, begins_with, is_in, is_unfit_for_plain, reserved_words, is_float_word}
use Rattle.defs_tree.specs.Typing.{typing, is_string}

-- the text cannot be written as one plain scalar
abbrev pub is_unfit : List ℕ → Bool
is_unfit text =
    is_empty text || has_outer_space text
    || has_indicator_first text || begins_with (codes "0x") text
    || list_any is_unfit_for_plain text

-- what some reader takes for a boolean, for nothing or for a number
abbrev pub is_name : List ℕ → Bool
is_name text = is_among reserved_words text || is_float_word text

-- the same, or what stands for something else
abbrev pub is_word : List ℕ → Bool
is_word text = is_name text || not (is_string (typing text))

-- the names of an infinity and of what is no number
abbrev pub float_names : List (List ℕ)
float_names = codes "inf" ∷ codes "infinity" ∷ codes "nan" ∷ []

-- a small letter but `f`, `i`, `n`, `o`, `t` and `y`
abbrev pub is_plain_small : ℕ → Bool
is_plain_small c = is_ascii_lowercase c && not (is_in (codes "finoty") c)

-- the same in either case
abbrev pub is_plain_letter : ℕ → Bool
is_plain_letter c = is_ascii_alphabetic c && not (is_in (codes "fFiInNoOtTyY") c)

-- the first character is such a letter
abbrev pub begins_plainly : List ℕ → Bool
begins_plainly [] = false
begins_plainly (c ∷ cs) = is_plain_letter c
