-- What a plain text stands for: the first row of the table that fits decides, and a text that no row fits is a string.
-- YAML 1.2, section 10.3.2 (the core schema's tag resolution), with the forms `0x-1`, `0o-1`, `++1` and the limits of 64 bits besides.
use Rattle.std.specs.Prelude.{ℕ, ◌^◌, ℤ, pos, negsuc, neg_ℤ, Bool, true, false, ◌||◌, ◌==◌, nat_lt, if◌then◌else◌, List, [], ◌∷◌, Option, Some, None, option_map, option_and_then, unwrap_or, codes}
use Rattle.std.specs.Char.{digit_value, is_ascii_digit}
use Rattle.std.specs.Str.Parse.{digits_value}
use Rattle.defs_tree.specs.Tree.{Tree, real, integer, string, boolean, null}
use Rattle.defs_tree.specs.Grammar.{one, any_number, at_least_one, optional, in_order, one_of, is_among}

-- ---- integers

-- an integer that has 64 bits: from -2^63 to 2^63 - 1
abbrev pub fits_i64 : ℤ → Bool
fits_i64 (pos n) = nat_lt n (2 ^ 63)
fits_i64 (negsuc n) = nat_lt n (2 ^ 63)

-- a digit of the base, above 9 a letter of either case
abbrev pub is_digit : ℕ → ℕ → Bool
is_digit base c = nat_lt (digit_value c) base

-- `+`
abbrev pub is_plus : ℕ → Bool
is_plus c = c == 43

-- `-`
abbrev pub is_minus : ℕ → Bool
is_minus c = c == 45

-- the number that one or more digits write
abbrev pub number : ℕ → List ℕ → Option ℕ
number base text = if at_least_one (is_digit base) text then Some (digits_value base text) else None

-- the number after an optional sign
abbrev pub with_sign : ℕ → List ℕ → Option ℤ
with_sign base [] = None
with_sign base (c ∷ cs) =
    if is_plus c then option_map pos (number base cs)
    else (if is_minus c then option_map (λ n. neg_ℤ (pos n)) (number base cs)
    else option_map pos (number base (c ∷ cs)))

-- a signed number: an optional sign and digits, of a value that fits 64 bits
abbrev pub signed_number : ℕ → List ℕ → Option ℤ
signed_number base text = option_and_then (λ z. if fits_i64 z then Some z else None) (with_sign base text)

-- a signed number in base 10
abbrev pub signed_decimal : List ℕ → Option ℤ
signed_decimal text = signed_number 10 text

-- what stands after a beginning, where the text begins so
abbrev pub after_prefix : List ℕ → List ℕ → Option (List ℕ)
after_prefix [] text = Some text
after_prefix (p ∷ ps) [] = None
after_prefix (p ∷ ps) (c ∷ cs) = if p == c then after_prefix ps cs else None

-- ---- reals

-- `+` or `-`
abbrev pub is_sign : ℕ → Bool
is_sign c = is_plus c || is_minus c

-- `.`
abbrev pub is_point : ℕ → Bool
is_point c = c == 46

-- `e` or `E`
abbrev pub is_exponent_mark : ℕ → Bool
is_exponent_mark c = (c == 101) || (c == 69)

-- `Exp`: `e` or `E`, an optional sign, digits
abbrev pub is_exponent : List ℕ → Bool
is_exponent = in_order (one is_exponent_mark ∷ optional (one is_sign) ∷ at_least_one is_ascii_digit ∷ [])

-- `D+`, `D+ "." D*` or `D* "." D+`
abbrev pub is_mantissa : List ℕ → Bool
is_mantissa = one_of
    (at_least_one is_ascii_digit
    ∷ in_order (at_least_one is_ascii_digit ∷ one is_point ∷ any_number is_ascii_digit ∷ [])
    ∷ in_order (any_number is_ascii_digit ∷ one is_point ∷ at_least_one is_ascii_digit ∷ [])
    ∷ [])

-- the decimal grammar: `Sign? (D+ or D+ "." D* or D* "." D+) Exp?`
unfoldable pub is_decimal : List ℕ → Bool
is_decimal = in_order (optional (one is_sign) ∷ is_mantissa ∷ optional is_exponent ∷ [])

-- ---- words

-- the words of null, the empty text among them
abbrev pub null_words : List (List ℕ)
null_words = codes "" ∷ codes "~" ∷ codes "null" ∷ []

-- the words of true
abbrev pub true_words : List (List ℕ)
true_words = codes "true" ∷ codes "True" ∷ codes "TRUE" ∷ []

-- the words of false
abbrev pub false_words : List (List ℕ)
false_words = codes "false" ∷ codes "False" ∷ codes "FALSE" ∷ []

-- the infinities, and what is no number
abbrev pub special_words : List (List ℕ)
special_words =
    codes ".inf" ∷ codes ".Inf" ∷ codes ".INF"
    ∷ codes "+.inf" ∷ codes "+.Inf" ∷ codes "+.INF"
    ∷ codes "-.inf" ∷ codes "-.Inf" ∷ codes "-.INF"
    ∷ codes ".nan" ∷ codes ".NaN" ∷ codes ".NAN" ∷ []

-- ---- the table

-- a tree, where the test holds
abbrev pub where_true : Bool → Tree → Option Tree
where_true b t = if b then Some t else None

-- the table, row by row: what a text stands for, where the row fits it
abbrev pub rows : List (List ℕ → Option Tree)
rows =
    -- `0x` and a signed number in base 16
    (λ text. option_map integer (option_and_then (signed_number 16) (after_prefix (codes "0x") text)))
    -- `0o` and a signed number in base 8
    ∷ (λ text. option_map integer (option_and_then (signed_number 8) (after_prefix (codes "0o") text)))
    -- `+` and a signed number in base 10
    ∷ (λ text. option_map integer (option_and_then signed_decimal (after_prefix (codes "+") text)))
    -- words
    ∷ (λ text. where_true (is_among null_words text) null)
    ∷ (λ text. where_true (is_among true_words text) (boolean true))
    ∷ (λ text. where_true (is_among false_words text) (boolean false))
    -- a signed number in base 10
    ∷ (λ text. option_map integer (signed_decimal text))
    -- the special words, and the decimal grammar
    ∷ (λ text. where_true (is_among special_words text) (real text))
    ∷ (λ text. where_true (is_decimal text) (real text))
    ∷ []

-- the tree of the first row that fits, else the string
abbrev pub by_rows : List (List ℕ → Option Tree) → List ℕ → Tree
by_rows [] text = string text
by_rows (row ∷ rest) text = unwrap_or (row text) (by_rows rest text)

-- what a plain text stands for
unfoldable pub typing : List ℕ → Tree
typing text = by_rows rows text

-- whether a tree is a string
abbrev pub is_string : Tree → Bool
is_string (string s) = true
is_string _ = false

-- whether a tree is a real
abbrev pub is_real : Tree → Bool
is_real (real s) = true
is_real _ = false

-- a text that stands for a real
abbrev pub is_real_text : List ℕ → Bool
is_real_text text = is_real (typing text)
