-- The decimal grammar read from left to right: a sign, digits, a point, digits, an exponent. For code that reads so.
use Rattle.defs_tree.proofs.Common.{[], any_number, ap, arith, at_least_one, Bool, false, followed_by, if◌then◌else◌, in_order, is_ascii_digit, is_decimal, is_exponent, is_exponent_mark, is_mantissa, is_point, is_sign, List, nat_tests, one, optional, refl, true, ℕ, ◌&&◌, ◌||◌, ◌∙◌, ◌∷◌, ◌≡◌}
use Rattle.defs_tree.proofs.GrammarLaws.{Rejects, after_all, after_one, one-then, at_least-after, any-after, optional_one-after, followed_by-or, followed_by-assoc, followed_by-empty, or-false}

-- the first character is of a class
abbrev pub begins_in : (ℕ → Bool) → List ℕ → Bool
begins_in class [] = false
begins_in class (c ∷ cs) = class c

-- an exponent or nothing, up to the end
abbrev pub reads_exponent : List ℕ → Bool
reads_exponent [] = true
reads_exponent (c ∷ cs) = is_exponent_mark c && at_least_one is_ascii_digit (after_one is_sign cs)

-- what follows the first digits: a point, digits and an exponent; at least one digit must stand before or after the point
abbrev pub reads_on : Bool → List ℕ → Bool
reads_on had_digits [] = had_digits
reads_on had_digits (c ∷ cs) =
    if is_point c then (had_digits || begins_in is_ascii_digit cs) && reads_exponent (after_all is_ascii_digit cs)
    else had_digits && reads_exponent (c ∷ cs)

abbrev pub reads_unsigned : List ℕ → Bool
reads_unsigned t = reads_on (begins_in is_ascii_digit t) (after_all is_ascii_digit t)

-- the whole decimal grammar
abbrev pub reads_decimal : List ℕ → Bool
reads_decimal t = reads_unsigned (after_one is_sign t)

-- ---- classes

sign_no_digit : (c : ℕ) → is_sign c ≡ true → is_ascii_digit c ≡ false
sign_no_digit c h = grind (arith, nat_tests)

sign_no_point : (c : ℕ) → is_sign c ≡ true → is_point c ≡ false
sign_no_point c h = grind (arith, nat_tests)

digit_no_mark : (c : ℕ) → is_ascii_digit c ≡ true → is_exponent_mark c ≡ false
digit_no_mark c h = grind (arith, nat_tests)

digit_no_point : (c : ℕ) → is_ascii_digit c ≡ true → is_point c ≡ false
digit_no_point c h = grind (arith, nat_tests)

-- ---- the exponent

abbrev exponent_part : List ℕ → Bool
exponent_part t = in_order (optional is_exponent ∷ []) t

abbrev digits_part : List ℕ → Bool
digits_part t = in_order (at_least_one is_ascii_digit ∷ []) t

digits_part-is : (t : List ℕ) → digits_part t ≡ at_least_one is_ascii_digit t
digits_part-is t = followed_by-empty (at_least_one is_ascii_digit) t

digits_reject_sign : Rejects is_sign digits_part
digits_reject_sign c cs h = digits_part-is (c ∷ cs) ∙ ap (λ b. b && any_number is_ascii_digit cs) (sign_no_digit c h)

pub exponent_read : (t : List ℕ) → exponent_part t ≡ reads_exponent t
exponent_read [] = refl
exponent_read (c ∷ cs) =
    followed_by-empty (optional is_exponent) (c ∷ cs)
    ∙ one-then is_exponent_mark (λ b. in_order (optional (one is_sign) ∷ at_least_one is_ascii_digit ∷ []) b) c cs
    ∙ ap (λ b. is_exponent_mark c && b) (optional_one-after is_sign digits_part digits_reject_sign cs ∙ digits_part-is (after_one is_sign cs))

exponent_rejects_digit : Rejects is_ascii_digit reads_exponent
exponent_rejects_digit c cs h = ap (λ b. b && at_least_one is_ascii_digit (after_one is_sign cs)) (digit_no_mark c h)

-- ---- the mantissa and the exponent

-- the three forms of a mantissa, each with the exponent after it
whole_form : List ℕ → Bool
whole_form t = followed_by (at_least_one is_ascii_digit) reads_exponent t

after_point : (List ℕ → Bool) → List ℕ → Bool
after_point g t = followed_by (one is_point) g t

first_point : List ℕ → Bool
first_point t = followed_by (at_least_one is_ascii_digit) (after_point (λ b. followed_by (any_number is_ascii_digit) reads_exponent b)) t

late_point : List ℕ → Bool
late_point t = followed_by (any_number is_ascii_digit) (after_point (λ b. followed_by (at_least_one is_ascii_digit) reads_exponent b)) t

-- three languages in order, and then a fourth
in_order-then : (l m n g : List ℕ → Bool) (t : List ℕ)
    → followed_by (λ b. in_order (l ∷ m ∷ n ∷ []) b) g t ≡ followed_by l (λ b. followed_by m (λ d. followed_by n g d) b) t
in_order-then l m n g t =
    followed_by-assoc l (λ b. in_order (m ∷ n ∷ []) b) g t
    ∙ (λ i. followed_by l (λ b. followed_by-assoc m (λ d. in_order (n ∷ []) d) g b i) t)
    ∙ (λ i. followed_by l (λ b. followed_by m (λ d. followed_by (λ e. followed_by-empty n e i) g d) b) t)

abbrev first_mantissa : List ℕ → Bool
first_mantissa b = in_order (at_least_one is_ascii_digit ∷ one is_point ∷ any_number is_ascii_digit ∷ []) b

abbrev late_mantissa : List ℕ → Bool
late_mantissa b = in_order (any_number is_ascii_digit ∷ one is_point ∷ at_least_one is_ascii_digit ∷ []) b

forms : (t : List ℕ) → followed_by is_mantissa exponent_part t ≡ (whole_form t || (first_point t || late_point t))
unfolding whole_form first_point late_point after_point
forms t =
    (λ i. followed_by is_mantissa (λ b. exponent_read b i) t)
    ∙ followed_by-or (at_least_one is_ascii_digit) (λ b. first_mantissa b || (late_mantissa b || false)) reads_exponent t
    ∙ ap (λ x. whole_form t || x)
    (followed_by-or first_mantissa (λ b. late_mantissa b || false) reads_exponent t
    ∙ (λ i. in_order-then (at_least_one is_ascii_digit) (one is_point) (any_number is_ascii_digit) reads_exponent t i
    || (followed_by (λ b. or-false (late_mantissa b) i) reads_exponent t))
    ∙ ap (λ x. first_point t || x) (in_order-then (any_number is_ascii_digit) (one is_point) (at_least_one is_ascii_digit) reads_exponent t))

-- what stands after a point
fraction : List ℕ → Bool
fraction t = followed_by (any_number is_ascii_digit) reads_exponent t

fraction_read : (t : List ℕ) → fraction t ≡ reads_exponent (after_all is_ascii_digit t)
unfolding fraction
fraction_read t = any-after is_ascii_digit reads_exponent exponent_rejects_digit t

whole_read : (t : List ℕ) → whole_form t ≡ (begins_in is_ascii_digit t && reads_exponent (after_all is_ascii_digit t))
unfolding whole_form
whole_read a = grind (arith, at_least-after, exponent_rejects_digit)

point_then : (g : List ℕ → Bool) (t : List ℕ) → after_point g t ≡ (begins_in is_point t && g (after_one is_point t))
unfolding after_point
point_then g [] = refl
point_then g (c ∷ cs) = grind (arith, one-then is_point g c cs)

point_rejects_digit : (g : List ℕ → Bool) → Rejects is_ascii_digit (after_point g)
unfolding after_point
point_rejects_digit g c cs h = one-then is_point g c cs ∙ ap (λ b. b && g cs) (digit_no_point c h)

-- a text that begins with a digit, seen after its first digits
with_digits : (r : List ℕ) → (reads_exponent r || (after_point fraction r || after_point whole_form r)) ≡ reads_on true r
with_digits a = grind (arith, point_then, fraction, whole_form, fraction_read, whole_read, or-false, nat_tests)

first_read : (t : List ℕ) → first_point t ≡ (begins_in is_ascii_digit t && after_point fraction (after_all is_ascii_digit t))
unfolding first_point fraction
first_read a = grind (arith, at_least-after, after_point, fraction, point_rejects_digit)

late_read : (t : List ℕ) → late_point t ≡ after_point whole_form (after_all is_ascii_digit t)
unfolding late_point whole_form
late_read t = any-after is_ascii_digit (after_point whole_form) (point_rejects_digit whole_form) t

pub unsigned_read : (t : List ℕ) → followed_by is_mantissa exponent_part t ≡ reads_unsigned t
unsigned_read t = grind (arith, forms, whole_read, first_read, late_read, after_point, fraction, whole_form, with_digits, point_then)

unsigned_rejects_sign : Rejects is_sign (λ t. followed_by is_mantissa exponent_part t)
unsigned_rejects_sign c cs h = unsigned_read (c ∷ cs) ∙ rw (sign_no_digit c h, sign_no_point c h) refl

-- the decimal grammar is what is read from left to right
pub is_decimal-read : (t : List ℕ) → is_decimal t ≡ reads_decimal t
unfolding is_decimal
is_decimal-read t =
    optional_one-after is_sign (λ b. in_order (is_mantissa ∷ optional is_exponent ∷ []) b) unsigned_rejects_sign t ∙ unsigned_read (after_one is_sign t)
