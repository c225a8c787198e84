-- The reals that JSON can write are the texts of its numbers whose value is a real.
use Rattle.defs_layout.proofs.Common.{[], and_from, and_parts, ap, append-nil, append_assoc, are_digits, arith, at_least_one, begins_in, Bool, cut_from, cut_to, eqb-true, Exponent, exponent, followed_by, followed_by-empty, Fraction, fraction, in_order, integer_value, is_ascii_digit, is_digit, is_exponent, is_exponent_mark, is_frac, is_fraction, is_json_number, is_json_real, is_minus, is_none, is_number, is_sign, is_whole, List, list_all, nat_tests, no_exponent, no_fraction, None, Number, number_tree, one, optional, real, refl, Sign, signed_decimal, spell_exponent, spell_fraction, spell_minus, spell_number, spell_sign, sym, true, ℕ, ◌&&◌, ◌++◌, ◌∙◌, ◌∷◌, ◌≡◌}
use Rattle.defs_layout.specs.JsonNumber as json
use Rattle.defs_layout.proofs.WholeNumbers.{fitted, signed_text, IsOther, no_digits}

-- ---- parts of a number, by their texts

record IsPart (P : Type 0) (fits : P → Bool) (spell : P → List ℕ → List ℕ) (t : List ℕ) : Type 0 where
  part : P
  fit : fits part ≡ true
  spelt : (r : List ℕ) → spell part r ≡ t ++ r

-- what was cut, put together before the rest r
together : (w x s r : List ℕ) → w ++ x ≡ s → w ++ (x ++ r) ≡ s ++ r
together w x s r whole = rw (← whole, append_assoc w x r) refl

-- one character of a class
record IsOne (p : ℕ → Bool) (t : List ℕ) : Type 0 where
  character : ℕ
  whole : t ≡ character ∷ []
  fits : p character ≡ true

one_is : (p : ℕ → Bool) (t : List ℕ) → one p t ≡ true → IsOne p t
one_is p a h = grind arith

minus_part : (t : List ℕ) → optional (one is_minus) t ≡ true → IsPart Bool (λ b. true) spell_minus t
minus_part a h = grind arith

frac_part : (t : List ℕ) → optional is_frac t ≡ true → IsPart Fraction is_fraction spell_fraction t
frac_part [] h = record { part = no_fraction; fit = refl; spelt = λ r. refl }
frac_part (c ∷ w) h = record { part = fraction w; fit = grind (arith, and_parts); spelt = λ r. grind (arith, and_parts, eqb-true) }

sign_part : (t : List ℕ) → optional (one is_sign) t ≡ true → IsPart Sign (λ s. true) spell_sign t
sign_part a h = grind arith

-- `e` is no capital
letter_part : (c : ℕ) → is_exponent_mark c ≡ true → (b : Bool) × (json.letter_e b ≡ c)
letter_part c h = grind arith

some_exponent : (t : List ℕ) → is_exponent t ≡ true → IsPart Exponent json.is_exponent spell_exponent t
some_exponent t h =
    let first = cut_from (one is_exponent_mark) (in_order (optional (one is_sign) ∷ at_least_one is_ascii_digit ∷ [])) t h in
    let mark = one_is is_exponent_mark first.before first.is_first in
    let letter = letter_part mark.character mark.fits in
    let second = cut_from (optional (one is_sign)) (in_order (at_least_one is_ascii_digit ∷ [])) first.after first.is_second in
    let sign = sign_part second.before second.is_first in
    let digits : are_digits second.after ≡ true =
    sym (grind arith) ∙ sym (followed_by-empty (at_least_one is_ascii_digit) second.after) ∙ second.is_second in
    record {
      part = exponent letter.0 sign.part second.after;
      fit = digits;
      spelt = λ r.
          rw (letter.1, sign.spelt, together _ _ _ r second.whole) (rw mark.whole at (together first.before first.after t r first.whole));
    }

exponent_part : (t : List ℕ) → optional is_exponent t ≡ true → IsPart Exponent json.is_exponent spell_exponent t
exponent_part a h = grind (arith, some_exponent)

-- ---- a number, by its text

pub record IsNumberText (s : List ℕ) : Type 0 where
  pub written : Number
  pub fits : is_number written ≡ true
  pub spelt : (r : List ℕ) → spell_number written r ≡ s ++ r

pub number_text : (s : List ℕ) → is_json_number s ≡ true → IsNumberText s
unfolding is_json_number
number_text s h =
    let a = cut_from (optional (one is_minus)) (in_order (is_whole ∷ optional is_frac ∷ optional is_exponent ∷ [])) s h in
    let b = cut_from is_whole (in_order (optional is_frac ∷ optional is_exponent ∷ [])) a.after a.is_second in
    let d = cut_from (optional is_frac) (in_order (optional is_exponent ∷ [])) b.after b.is_second in
    let m = minus_part a.before a.is_first in
    let f = frac_part d.before d.is_first in
    let e = exponent_part d.after (sym (followed_by-empty (optional is_exponent) d.after) ∙ d.is_second) in
    record {
      written = json.number m.part b.before f.part e.part;
      fits = and_from _ _ (and_from _ _ b.is_first f.fit) e.fit;
      spelt = λ r. rw (m.spelt, f.spelt, e.spelt, together _ _ _ r d.whole, together _ _ _ r b.whole) (together _ _ _ r a.whole);
    }

-- ---- as integers

all_digits : (w : List ℕ) → list_all is_ascii_digit w ≡ true → list_all (is_digit 10) w ≡ true
all_digits [] h = refl
all_digits (c ∷ w) h = grind (arith, nat_tests, and_parts, and_from, all_digits w)

whole_begins : (w r : List ℕ) → are_digits w ≡ true → begins_in is_ascii_digit (w ++ r) ≡ true
whole_begins a r h = grind arith

other_text : (m : Bool) (w r : List ℕ) → is_whole w ≡ true → IsOther r → signed_decimal (spell_minus m (w ++ r)) ≡ None
other_text m w r h o = signed_text m (w ++ r) (whole_begins w r (grind arith))
    ∙ ap (λ b. fitted b (integer_value m (w ++ r))) (no_digits w r o)

exponent_other : (b : Bool) (s : Sign) (w r : List ℕ) → IsOther (spell_exponent (exponent b s w) r)
exponent_other a s w r = grind arith

-- ---- the value of a number

whole_of : (m : Bool) (w : List ℕ) (f : Fraction) (e : Exponent) → is_number (json.number m w f e) ≡ true → is_whole w ≡ true
whole_of m w f e h = (and_parts (is_whole w) (is_fraction f) (and_parts (is_whole w && is_fraction f) (json.is_exponent e) h).0).0

-- a number whose text is no integer is a real
real_value : (n : Number) → is_number n ≡ true → is_none (signed_decimal (spell_number n [])) ≡ true → number_tree n ≡ real (spell_number n [])
real_value a h none = grind (arith, whole_of, append-nil, signed_text, whole_begins, all_digits)

-- and the other way
no_integer : (n : Number) (s : List ℕ) → is_number n ≡ true → number_tree n ≡ real s → (is_none (signed_decimal (spell_number n [])) ≡ true) × (spell_number n [] ≡ s)
no_integer (json.number m w no_fraction no_exponent) s h e = grind (arith, whole_of, append-nil, signed_text, whole_begins, all_digits)
no_integer (json.number m w no_fraction (exponent b x d)) s h e = (ap is_none (other_text m w _ (whole_of m w no_fraction (exponent b x d) h) (exponent_other b x d [])), cc)
no_integer (json.number m w (fraction d) x) s h e = (ap is_none (other_text m w (spell_fraction (fraction d) (spell_exponent x [])) (whole_of m w (fraction d) x h) refl), cc)

-- ---- the reals

pub record IsReal (s : List ℕ) : Type 0 where
  pub written : Number
  pub fits : is_number written ≡ true
  pub spelt : (r : List ℕ) → spell_number written r ≡ s ++ r
  pub value : number_tree written ≡ real s

pub real_written : (s : List ℕ) → is_json_real s ≡ true → IsReal s
real_written s h =
    let parts = and_parts (is_json_number s) (is_none (signed_decimal s)) h in
    let n = number_text s parts.0 in
    let whole : spell_number n.written [] ≡ s = n.spelt [] ∙ append-nil s in
    let value = real_value n.written n.fits (rw whole parts.1) in
    record { written = n.written; fits = n.fits; spelt = n.spelt; value = rw whole at value }

cut : (f g : List ℕ → Bool) (a b : List ℕ) → f a ≡ true → g b ≡ true → followed_by f g (a ++ b) ≡ true
cut f g a b h k = cut_to f g (a ++ b) (record { before = a; after = b; whole = refl; is_first = h; is_second = k })

exponent_text : (e : Exponent) → json.is_exponent e ≡ true → optional is_exponent (spell_exponent e []) ≡ true
exponent_text a h = grind (arith, followed_by-empty, append-nil, cut)

text_of_number : (n : Number) → is_number n ≡ true → is_json_number (spell_number n []) ≡ true
unfolding is_json_number
text_of_number a h = grind (arith, and_parts, followed_by-empty, exponent_text, cut)

pub real_from : (n : Number) (s : List ℕ) → is_number n ≡ true → number_tree n ≡ real s → is_json_real s ≡ true
real_from n s h e =
    let o = no_integer n s h e in rw (← o.1) (and_from _ _ (text_of_number n h) o.0)
