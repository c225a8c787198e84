-- The spelling of a scalar, where it is plain, stands for that scalar.
use Rattle.std.specs.Fmt.{signed_decimal as decimal_digits}
use Rattle.defs_tree.proofs.Common.{[], AllDigits, and_parts, ap, arith, Bool, decimal, decimal_is_IsNumeral, digit_from_value, digits_value, false, fits_i64, if◌then◌else◌, integer, is_among, is_decimal, is_quoted, is_string, IsNumeral, IsSpeltPlain, List, list_all, lt-ltb, ltb-true, nat_lt, ne_eqb, negsuc, None, not, not-false, not-true, number, option_and_then, or_parts, pos, refl, signed_decimal, Some, spelling, string, suc, Tree, true, typing, ℕ, ℤ, ◌<◌, ◌^◌, ◌∷◌, ◌≡◌, ◌≢◌, ◌≤◌, nat_tests, eqb-true}
use Rattle.defs_tree.proofs.Parsing.{all_digits-to}
use Rattle.defs_tree.proofs.TypingLaws.{typing-real, typing-string}

-- ---- texts that begin with a digit or a minus

-- a word that is empty or begins with a letter or a tilde
abbrev starts_late : List ℕ → Bool
starts_late [] = true
starts_late (c ∷ cs) = nat_lt 57 c

no_late_word : (ws : List (List ℕ)) (c : ℕ) (cs : List ℕ) → list_all starts_late ws ≡ true → c < 58 → is_among ws (c ∷ cs) ≡ false
no_late_word [] c cs h s = refl
no_late_word (w ∷ ws) c cs h s = grind (arith, and_parts, no_late_word ws c cs)

-- a second character that is a letter is not found
abbrev SecondIsEarly : List ℕ → Type 0
SecondIsEarly [] = Unit {0}
SecondIsEarly (c ∷ cs) = c < 58

-- such a text stands for the integer that it writes
integer_text : (c : ℕ) (cs : List ℕ) (z : ℤ) → c < 58 → c ≢ 43 → SecondIsEarly cs → signed_decimal (c ∷ cs) ≡ Some z → typing (c ∷ cs) ≡ integer z
unfolding typing
integer_text c cs z early n second e = grind (arith, nat_tests, eqb-true, no_late_word)

-- ---- the digits of a number

number-digits : (d : ℕ) (ds : List ℕ) → AllDigits 10 (d ∷ ds) → number 10 (d ∷ ds) ≡ Some (digits_value 10 (d ∷ ds))
number-digits d ds h = ap (λ b. if b then Some (digits_value 10 (d ∷ ds)) else None) (all_digits-to 10 (d ∷ ds) h)

fitted : (z : ℤ) → fits_i64 z ≡ true → option_and_then (λ z. if fits_i64 z then Some z else None) (Some z) ≡ Some z
fitted z h = ap (λ b. if b then Some z else None) h

second_digit : (ds : List ℕ) → AllDigits 10 ds → SecondIsEarly ds
second_digit a h = grind arith

-- a number's digits
numeral_text : (ds : List ℕ) (n : ℕ) → IsNumeral 10 ds → digits_value 10 ds ≡ n → n < 2 ^ 63 → typing ds ≡ integer (pos n)
numeral_text [] n h e small = absurd (omega (arith, h.0))
numeral_text (d ∷ ds) n h e small =
    let range : (48 ≤ d) × (d ≤ 57) = digit_from_value d h.1.0 in
    let one = number-digits d ds h.1 in
    integer_text d ds (pos n) (omega arith) (λ is. omega arith) (second_digit ds h.1.1)
    (rw (ne_eqb d 43 (λ is. omega arith), ne_eqb d 45 (λ is. omega arith), one, e) (fitted (pos n) (lt-ltb n (2 ^ 63) small)))

-- and a minus before them
negative_text : (ds : List ℕ) (n : ℕ) → IsNumeral 10 ds → digits_value 10 ds ≡ suc n → n < 2 ^ 63 → typing (45 ∷ ds) ≡ integer (negsuc n)
negative_text [] n h e small = absurd (omega (arith, h.0))
negative_text (d ∷ ds) n h e small =
    let one = number-digits d ds h.1 in
    integer_text 45 (d ∷ ds) (negsuc n) (omega arith) (λ is. omega arith) (second_digit (d ∷ ds) h.1)
    (rw (one, e) (fitted (negsuc n) (lt-ltb n (2 ^ 63) small)))

pub integer_back : (z : ℤ) → fits_i64 z ≡ true → typing (decimal_digits z) ≡ integer z
integer_back (pos n) h =
    let small : n < 2 ^ 63 = ltb-true n (2 ^ 63) h in
    let is = decimal_is_IsNumeral n (omega arith) in
    numeral_text (decimal n) n is.0 is.1 small
integer_back (negsuc n) h =
    let small : n < 2 ^ 63 = ltb-true n (2 ^ 63) h in
    let is = decimal_is_IsNumeral (suc n) (omega arith) in
    negative_text (decimal (suc n)) n is.0 is.1 small

-- ---- the other scalars

-- a string that isn't quoted is typed as a string
pub unquoted_is_string : (s : List ℕ) → is_quoted s ≡ false → is_string (typing s) ≡ true
unfolding is_quoted
unquoted_is_string s h = not-false (is_string (typing s)) (or_parts _ (not (is_string (typing s))) h).1

pub string_back : (s : List ℕ) → is_quoted s ≡ false → typing s ≡ string s
string_back s h = typing-string s (unquoted_is_string s h)

pub spelling_back : (t : Tree) → IsSpeltPlain t → typing (spelling t) ≡ t
unfolding typing is_decimal
spelling_back a h = grind (arith, typing-real, integer_back, not-true, string_back, refl)
