-- When a string is written in double quotes: if it would be read as something else, or not as one plain scalar.
-- YAML 1.2, section 7.3.3 (plain style) and section 5.3 (indicators); the words of YAML 1.1's booleans and of number formats
-- are quoted too, so that other readers of the text take them for strings.
use Rattle.std.specs.Prelude.{ℕ, Bool, false, not, ◌&&◌, ◌||◌, ◌==◌, nat_le, nat_eq, List, [], ◌∷◌, codes}
use Rattle.std.specs.List.{list_any, starts_with, ends_with}
use Rattle.std.specs.Str.{str_to_ascii_lowercase}
use Rattle.defs_tree.specs.Grammar.{one, optional, in_order, is_among}
use Rattle.defs_text.specs.Text.{is_empty}
use Rattle.defs_tree.specs.Typing.{typing, is_string, is_sign}

-- the class of the characters of a text
abbrev pub is_in : List ℕ → ℕ → Bool
is_in characters c = list_any (λ d. d == c) characters

-- the text begins so
abbrev pub begins_with : List ℕ → List ℕ → Bool
begins_with beginning text = starts_with nat_eq text beginning

-- a space at either end
abbrev pub has_outer_space : List ℕ → Bool
has_outer_space text = begins_with (codes " ") text || ends_with nat_eq text (codes " ")

-- the first character is an indicator, or one that has a meaning there for some readers: `<`, `=` and `.`
abbrev pub has_indicator_first : List ℕ → Bool
has_indicator_first [] = false
has_indicator_first (c ∷ cs) = is_in (codes "&*?|-<>=!%@.") c

-- an indicator that may end a plain scalar or make it something else, a quote or backslash, or a control character but U+0007,
-- U+0008, U+000B, U+000C, U+001B and U+007F
unfoldable pub is_unfit_for_plain : ℕ → Bool
is_unfit_for_plain c =
    is_in (codes ":{}[],#`\"'\\") c
    || nat_le c 6
    || (c == 9) || (c == 10) || (c == 13)
    || (nat_le 14 c && nat_le c 26)
    || (nat_le 28 c && nat_le c 31)

-- words that some reader of YAML takes for a boolean or for nothing
abbrev pub reserved_words : List (List ℕ)
reserved_words =
    codes "true" ∷ codes "True" ∷ codes "TRUE" ∷ codes "false" ∷ codes "False" ∷ codes "FALSE"
    ∷ codes "null" ∷ codes "Null" ∷ codes "NULL" ∷ codes "~"
    ∷ codes "y" ∷ codes "Y" ∷ codes "n" ∷ codes "N"
    ∷ codes "yes" ∷ codes "Yes" ∷ codes "YES" ∷ codes "no" ∷ codes "No" ∷ codes "NO"
    ∷ codes "on" ∷ codes "On" ∷ codes "ON" ∷ codes "off" ∷ codes "Off" ∷ codes "OFF" ∷ []

-- an optional sign and `inf`, `infinity` or `nan`, in any mixture of cases
abbrev pub is_float_word : List ℕ → Bool
is_float_word text = in_order (optional (one is_sign) ∷ is_among (codes "inf" ∷ codes "infinity" ∷ codes "nan" ∷ []) ∷ []) (str_to_ascii_lowercase text)

-- a string that is written in double quotes, unless it is written as a literal block
unfoldable pub is_quoted : List ℕ → Bool
is_quoted text =
    is_empty text || has_outer_space text
    || has_indicator_first text || begins_with (codes "0x") text
    || list_any is_unfit_for_plain text
    || is_among reserved_words text
    || is_float_word text
    || not (is_string (typing text))
