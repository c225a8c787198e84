-- What the texts of numbers stand for.
use Rattle.std.specs.Char.{is_ascii_digit}
use Rattle.std.specs.Prelude.{option_map}
use Rattle.std.specs.List.{list_all}
use Rattle.proof_layouts.proofs.Common.{[], after_prefix, and_from, and_parts, ap, append-nil, are_digits, arith, Bool, codes, Exponent, exponent, false, false_words, fits_i64, Fraction, fraction, if◌then◌else◌, integer, integer_value, is_decimal, is_digit, is_fraction, is_number, is_sign, is_whole, JsonNumbersStandForTheirTrees, List, nat_tests, ne_eqb, no_exponent, no_fraction, None, null_words, real, refl, signed_decimal, special_words, spell_exponent, spell_fraction, spell_minus, spell_number, sym, true, true_words, true≢false, typing, unwrap_or, where_true, ℕ, ℤ, ◌++◌, ◌<◌, ◌==◌, ◌&&◌, ◌∙◌, ◌∷◌, ◌≡◌}
use Rattle.defs_tree.specs.Grammar.{at_least_one, is_among}
use Rattle.defs_tree.proofs.GrammarLaws.{after_all, after_one, list_all-more}
use Rattle.defs_tree.proofs.DecimalReading.{begins_in, reads_exponent, reads_on, reads_unsigned, is_decimal-read}
use Rattle.defs_tree.proofs.RealTexts.{is_real_character, decimal-characters}
use Rattle.defs_layout.specs.JsonNumber as json
use Rattle.defs_layout.proofs.WholeNumbers.{fitted, signed_text, IsOther, no_digits}

-- ---- digits

digits_no_sign : (w r : List ℕ) → are_digits w ≡ true → after_one is_sign (w ++ r) ≡ w ++ r
digits_no_sign a r h = grind (arith, nat_tests)

digits_first : (w r : List ℕ) → are_digits w ≡ true → begins_in is_ascii_digit (w ++ r) ≡ true
digits_first a r h = grind arith

all_digits : (w : List ℕ) → are_digits w ≡ true → list_all is_ascii_digit w ≡ true
all_digits a h = grind arith

after_digits : (w r : List ℕ) → list_all is_ascii_digit w ≡ true → begins_in is_ascii_digit r ≡ false → after_all is_ascii_digit (w ++ r) ≡ r
after_digits [] r h stops = grind arith
after_digits (c ∷ w) r h stops = grind (arith, and_parts, after_digits w r)

whole_digits : (w : List ℕ) → is_whole w ≡ true → are_digits w ≡ true
whole_digits a h = grind (arith, and_from)

-- ---- numbers are decimal

some_digits : (w : List ℕ) → are_digits w ≡ true → at_least_one is_ascii_digit (w ++ []) ≡ true
some_digits [] h = cc
some_digits (c ∷ w) h = ap (at_least_one is_ascii_digit) (append-nil (c ∷ w)) ∙ h

exponent_reads : (e : Exponent) → json.is_exponent e ≡ true → reads_exponent (spell_exponent e []) ≡ true
exponent_reads a h = grind (arith, digits_no_sign, some_digits)

rest_stops : (f : Fraction) (e : Exponent) → begins_in is_ascii_digit (spell_fraction f (spell_exponent e [])) ≡ false
rest_stops f e = grind arith

rest_reads : (f : Fraction) (e : Exponent) → is_fraction f ≡ true → json.is_exponent e ≡ true → reads_on true (spell_fraction f (spell_exponent e [])) ≡ true
rest_reads no_fraction no_exponent h i = refl
rest_reads no_fraction (exponent true s digits) h i = exponent_reads (exponent true s digits) i
rest_reads no_fraction (exponent false s digits) h i = exponent_reads (exponent false s digits) i
rest_reads (fraction digits) e h i =
    rw (after_digits digits (spell_exponent e []) (all_digits digits h) (rest_stops no_fraction e)) (exponent_reads e i)

number_digits : (m : Bool) (w : List ℕ) (f : Fraction) (e : Exponent) → is_number (json.number m w f e) ≡ true → are_digits w ≡ true
number_digits m w f e h = grind (arith, whole_digits)

unsigned : (w r : List ℕ) → are_digits w ≡ true → begins_in is_ascii_digit r ≡ false → reads_on true r ≡ true → reads_unsigned (w ++ r) ≡ true
unsigned w r h stops reads = rw (digits_first w r h, after_digits w r (all_digits w h) stops) reads

decimal_number : (m : Bool) (w : List ℕ) (f : Fraction) (e : Exponent) → is_number (json.number m w f e) ≡ true
    → is_decimal (spell_number (json.number m w f e) []) ≡ true
decimal_number a w f e h = grind (arith, is_decimal-read, unsigned, rest_stops, rest_reads, digits_no_sign, whole_digits)

-- ---- decimal texts

other_letter : (x d : ℕ) → is_real_character x ≡ false → is_real_character d ≡ true → (x == d) ≡ false
other_letter x d h e = ne_eqb x d (λ same. true≢false (sym e ∙ ap is_real_character (sym same) ∙ h))

no_prefix : (x c : ℕ) (t : List ℕ) → is_real_character x ≡ false → list_all is_real_character t ≡ true → after_prefix (48 ∷ x ∷ []) (c ∷ t) ≡ None
no_prefix x c t h are = grind (arith, other_letter, and_parts)

-- the rows of decimal integers, of special words and of reals
last_rows : (are : Bool) (z : ℤ) (special : Bool) (text : List ℕ)
    → unwrap_or (option_map integer (fitted are z)) (unwrap_or (where_true special (real text)) (real text))
    ≡ (if are && fits_i64 z then integer z else real text)
last_rows are z special text = grind arith

decimal_typed : (c : ℕ) (t : List ℕ) (are : Bool) (z : ℤ) → c < 58 → (43 == c) ≡ false → is_decimal (c ∷ t) ≡ true
    → signed_decimal (c ∷ t) ≡ fitted are z → typing (c ∷ t) ≡ (if are && fits_i64 z then integer z else real (c ∷ t))
unfolding typing
decimal_typed c t are z early no_plus is signed =
    let late : (d : ℕ) → 57 < d → (d == c) ≡ false = λ d h. ne_eqb d c (λ e. omega arith) in
    let all = (and_parts (is_real_character c) (list_all is_real_character t) (decimal-characters (c ∷ t) is)).1 in
    let hexadecimal : after_prefix (codes "0x") (c ∷ t) ≡ None = no_prefix 120 c t refl all in
    let octal : after_prefix (codes "0o") (c ∷ t) ≡ None = no_prefix 111 c t refl all in
    let plus : after_prefix (codes "+") (c ∷ t) ≡ None = rw no_plus refl in
    let null : is_among null_words (c ∷ t) ≡ false = rw (late 126 (omega arith), late 110 (omega arith)) refl in
    let yes : is_among true_words (c ∷ t) ≡ false = rw (late 116 (omega arith), late 84 (omega arith)) refl in
    let no : is_among false_words (c ∷ t) ≡ false = rw (late 102 (omega arith), late 70 (omega arith)) refl in
    rw (hexadecimal, octal, plus, null, yes, no, signed, is) (last_rows are z (is_among special_words (c ∷ t)) (c ∷ t))

-- it stands for an integer if it is all digits, and that fits
typed : (m : Bool) (t : List ℕ) (are : Bool) → begins_in is_ascii_digit t ≡ true → is_decimal (spell_minus m t) ≡ true
    → at_least_one (is_digit 10) t ≡ are
    → typing (spell_minus m t) ≡ (if are && fits_i64 (integer_value m t) then integer (integer_value m t) else real (spell_minus m t))
typed true t are h is e =
    decimal_typed 45 t are (integer_value true t) (omega arith) refl is (signed_text true t h ∙ ap (λ b. fitted b (integer_value true t)) e)
typed false [] are h is e = cc
typed false (c ∷ t) are h is e =
    decimal_typed c t are (integer_value false (c ∷ t)) (grind (arith, nat_tests)) (grind (arith, nat_tests)) is
    (signed_text false (c ∷ t) h ∙ ap (λ b. fitted b (integer_value false (c ∷ t))) e)

-- ---- all

not_whole : (m : Bool) (w : List ℕ) (f : Fraction) (e : Exponent) → is_number (json.number m w f e) ≡ true → IsOther (spell_fraction f (spell_exponent e []))
    → typing (spell_number (json.number m w f e) []) ≡ real (spell_number (json.number m w f e) [])
not_whole m w f e h other =
    let r = spell_fraction f (spell_exponent e []) in
    typed m (w ++ r) false (digits_first w r (number_digits m w f e h)) (decimal_number m w f e h) (no_digits w r other)

are_ten : (w : List ℕ) → are_digits w ≡ true → at_least_one (is_digit 10) w ≡ true
are_ten [] h = cc
are_ten (c ∷ w) h = list_all-more is_ascii_digit (is_digit 10) (λ d k. grind (arith, nat_tests)) (c ∷ w) h

pub numbers_stand_for_their_trees : JsonNumbersStandForTheirTrees
numbers_stand_for_their_trees (json.number m w no_fraction no_exponent) h =
    let digits = number_digits m w no_fraction no_exponent h in
    let is = decimal_number m w no_fraction no_exponent h in
    rw append-nil (typed m w true (rw append-nil at (digits_first w [] digits)) (rw append-nil at is) (are_ten w digits))
numbers_stand_for_their_trees (json.number m w no_fraction (exponent true s digits)) h = not_whole m w no_fraction (exponent true s digits) h refl
numbers_stand_for_their_trees (json.number m w no_fraction (exponent false s digits)) h = not_whole m w no_fraction (exponent false s digits) h refl
numbers_stand_for_their_trees (json.number m w (fraction digits) e) h = not_whole m w (fraction digits) e h refl
