-- Digits, and the parts of a number.
use Rattle.yaml_json.proofs.ReadCommon.{[], after_all, and_from, and_parts, ap, append-nil, append_assoc, ap₂, are_digits, arith, Bool, chars, drop, drop-append_seam, Exponent, exponent, false, Fraction, get_or, IfSome, if◌then◌else◌, is_ascii, is_ascii_digit, is_exponent, is_fraction, is_number, is_whole, IsCharBoundary, IsCharBoundary-at_seam, IsDigits, IsExponentPart, IsFractionPart, IsMinus, IsNumber, IsNumberPart, IsSign, IsUtf8, IsValue, IsWhole, length, length-append, letter_e, List, list_all, list_all-append, list_all-more, low_chars, low_front, nat_tests, ne_eqb, not, Number, Option, refl, spell_exponent, spell_fraction, spell_minus, spell_number, suc, sym, take, take-append_seam, take_all, Tree, true, ℕ, ◌&&◌, ◌++◌, ◌-◌, ◌<◌, ◌==◌, ◌∙◌, ◌∷◌, ◌≡◌, ◌≤◌}
use Rattle.defs_tree.specs.Typing.{typing}
use Rattle.defs_tree.proofs.DecimalReading.{begins_in}
use Rattle.defs_layout.specs.JsonNumber.{number}
use Rattle.defs_layout.specs.Json as json
use Rattle.proof_layouts.proofs.Numbers.{numbers_stand_for_their_trees}
use Rattle.yaml_json.proofs.TextLemmas.{utf8_behind}

-- digits, or none
record Run (text rest : List ℕ) : Type 0 where
  digits : List ℕ
  are : list_all is_ascii_digit digits ≡ true
  spelled : digits ++ rest ≡ text

run : (t : List ℕ) → Run t (after_all is_ascii_digit t)
run [] = record { digits = []; are = refl; spelled = refl }
run (c ∷ t) = by (is_ascii_digit c) refl (run t)
  where
    by : (b : Bool) → is_ascii_digit c ≡ b → Run t (after_all is_ascii_digit t) → Run (c ∷ t) (if b then after_all is_ascii_digit t else c ∷ t)
    by true e r = record { digits = c ∷ r.digits; are = and_from _ _ e r.are; spelled = cc }
    by false e r = record { digits = []; are = refl; spelled = refl }

pub digits_read : (t rest : List ℕ) → begins_in is_ascii_digit t ≡ true → rest ≡ after_all is_ascii_digit t → IsDigits t rest
digits_read [] rest h e = cc
digits_read (c ∷ t) rest h e =
    let r = run t in
    let is : after_all is_ascii_digit t ≡ rest = ap (λ b. if b then after_all is_ascii_digit t else c ∷ t) (sym h) ∙ sym e in
    record { digits = c ∷ r.digits; are = and_from _ _ h r.are; spelled = cc }

-- a slice's first element and what follows it
pub rest_of : (t : List ℕ) (c : ℕ) → 1 ≤ length t → get_or t 0 0 ≡ c → c ∷ take (length t - 1) (drop 1 t) ≡ t
rest_of [] c h e = absurd (omega arith)
rest_of (x ∷ t) c h e = ap₂ (λ a b. a ∷ b) (sym e) (take_all (suc (length t) - 1) t (omega arith))

pub digits_whole : (t r rest : List ℕ) (c : ℕ) → c ∷ r ≡ t → 49 ≤ c → c ≤ 57 → rest ≡ after_all is_ascii_digit r → IsWhole t rest
digits_whole t r rest c e low high is =
    let d = run r in
    record { digits = c ∷ d.digits; is = by d.digits d.are; spelled = cc }
  where
    digit : is_ascii_digit c ≡ true
    digit = grind (arith, nat_tests)

    by : (w : List ℕ) → list_all is_ascii_digit w ≡ true → is_whole (c ∷ w) ≡ true
    by [] h = digit
    by (d ∷ w) h = and_from (not (c == 48)) (are_digits (c ∷ d ∷ w)) (ap not (ne_eqb c 48 (λ same. omega arith))) (and_from (is_ascii_digit c) (list_all is_ascii_digit (d ∷ w)) digit h)

-- ---- what a function gives, if it gives anything

pub some_of : {A : Type 0} (P Q : A → Type 0) (o : Option A) → ((x : A) → P x → Q x) → IfSome o P → IfSome o Q
some_of P Q a f h = grind arith

pub exponent_from : (is_capital : Bool) {t r m rest : List ℕ} → letter_e is_capital ∷ r ≡ t → IsSign r m → IsDigits m rest
    → IsExponentPart t rest
exponent_from is_capital e s d = record { part = exponent is_capital s.sign d.digits; is = d.are; spelled = cc }

pub number_from : {t a b c rest : List ℕ} → IsMinus t a → IsWhole a b → IsFractionPart b c → IsExponentPart c rest → IsNumberPart t rest
number_from m w f e = record {
  parts = number m.is_negative w.digits f.part e.part;
  is = and_from _ (is_exponent e.part) (and_from _ (is_fraction f.part) w.is f.is) e.is;
  spelled = cc;
}

-- ---- a number, and what stands behind it

exponent_before : (e : Exponent) (r : List ℕ) → spell_exponent e r ≡ spell_exponent e [] ++ r
exponent_before a r = grind (arith, append_assoc, append-nil)

fraction_before : (f : Fraction) (r : List ℕ) → spell_fraction f r ≡ spell_fraction f [] ++ r
fraction_before a r = grind (arith, append_assoc, append-nil)

number_before : (n : Number) (r : List ℕ) → spell_number n r ≡ spell_number n [] ++ r
number_before a r = grind (arith, append_assoc, append-nil, exponent_before, fraction_before)

-- it has a digit
whole_longer : (w r : List ℕ) → is_whole w ≡ true → length r < length (w ++ r)
whole_longer a r h = grind (arith, length-append)

pub number_longer : (n : Number) (r : List ℕ) → is_number n ≡ true → length r < length (spell_number n r)
number_longer a r h = grind (arith, length-append, whole_longer)

-- ---- its characters are ASCII

low_digits : (w : List ℕ) → list_all is_ascii_digit w ≡ true → list_all is_ascii w ≡ true
low_digits w h = list_all-more is_ascii_digit is_ascii (λ c h. grind (arith, nat_tests)) w h

whole_digits : (w : List ℕ) → is_whole w ≡ true → list_all is_ascii_digit w ≡ true
whole_digits w h = grind (arith, and_from)

exponent_low : (e : Exponent) → is_exponent e ≡ true → list_all is_ascii (spell_exponent e []) ≡ true
exponent_low a h = grind (arith, nat_tests, append-nil, low_digits)

fraction_low : (f : Fraction) → is_fraction f ≡ true → list_all is_ascii (spell_fraction f []) ≡ true
fraction_low a h = grind (arith, nat_tests, append-nil, low_digits)

minus_low : (b : Bool) (r : List ℕ) → list_all is_ascii r ≡ true → list_all is_ascii (spell_minus b r) ≡ true
minus_low a r h = grind (arith, nat_tests)

pub number_low : (n : Number) → is_number n ≡ true → list_all is_ascii (spell_number n []) ≡ true
number_low (number b w f e) h =
    let p = and_parts (is_whole w && is_fraction f) (is_exponent e) h in
    let q = and_parts (is_whole w) (is_fraction f) p.0 in
    minus_low b _ (rw (fraction_before f (spell_exponent e []), list_all-append, list_all-append)
    (and_from _ _ (low_digits w (whole_digits w q.0)) (and_from _ _ (fraction_low f q.1) (exponent_low e p.1))))

-- the text is cut behind its number
pub record NumberCut (bs : List ℕ) (n : ℕ) : Type 0 where
  pub boundary : IsCharBoundary bs n
  pub is_number : IsNumber (chars (take n bs)) (chars bs) (chars (drop n bs))

pub number_cut : (bs after : List ℕ) → IsUtf8 bs → IsNumberPart bs after → NumberCut bs (length bs - length after)
number_cut bs after u p =
    let s = spell_number p.parts [] in
    let low : list_all is_ascii s ≡ true = number_low p.parts p.is in
    let whole : bs ≡ s ++ after = sym p.spelled ∙ number_before p.parts after in
    let n_is : length bs - length after ≡ length s = omega (arith, ap length whole, length-append s after) in
    let front : take (length s) bs ≡ s = ap (take (length s)) whole ∙ take-append_seam s after in
    let back : drop (length s) bs ≡ after = ap (drop (length s)) whole ∙ drop-append_seam s after in
    rw n_is (record {
      boundary = IsCharBoundary-at_seam bs s after whole (utf8_behind s after low (rw whole at u));
      is_number = rw (front, back) (record {
        parts = p.parts;
        is = p.is;
        shown = sym (low_chars s low);
        spelled = number_before p.parts (chars after) ∙ sym (low_front s bs after low whole);
      });
    })

-- ---- its tree

pub number_value : (tree : Tree) (shown text rest : List ℕ) → IsNumber shown text rest → tree ≡ typing shown → IsValue tree 0 text rest
number_value tree shown text rest n e = record { value = json.number n.parts; is = n.is; tree_is = sym (numbers_stand_for_their_trees n.parts n.is) ∙ ap typing n.shown ∙ sym e; shallow = omega arith; spelled = n.spelled }
