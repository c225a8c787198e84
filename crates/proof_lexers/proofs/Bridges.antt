-- Classes and tables of the model and of the definitions tell the same characters apart.
use Rattle.std.specs.Char.{is_digit}
use Rattle.std.proofs.Math.Bool.{and-false, or-false, or_assoc}
use Rattle.std.proofs.Common.{arith, Bool, false, if◌then◌else◌, inl, inr, List, None, Option, refl, Some, true, ℕ, ◌&&◌, ◌==◌, ◌||◌, ◌≡◌, ◌⊎◌}
unfoldable use Rattle.model_scanner.specs.Machine.{at_marker, is_marker}
use Rattle.std.proofs.lemmas.Bool.{cases_Bool, eqb-true}
use Rattle.model_scanner.specs.declared.kind.Escape.TheVariants.{Char, Code, Unknown}
use Rattle.model_scanner.specs.declared.kind.Escape.{Escape}
unfoldable use Rattle.model_scanner.specs.Quoted.{escape_of, is_scalar}
use Rattle.defs_text.specs.FlowScalar.{escapes, lookup, numeric_escapes}
unfoldable use Rattle.yaml_chars.specs.Class.{is_alpha, is_alphanumeric, is_blank, is_break, is_flow, is_hex, is_tag, is_uri, is_uri_mark}
use Rattle.yaml_chars.specs.Class.{is_blank_or_breakz}
unfoldable use Rattle.defs_text.specs.FlowScalar.{is_character_code}
use Rattle.std.proofs.lemmas.Bool.Decides.{nat_tests}
use Rattle.defs_text.specs.Classes as classes
use Rattle.model_scanner.specs.declared.kind.Digits.{Digits}
use Rattle.model_scanner.specs.declared.kind.Digits.TheVariants.{Two, Four, Eight}

pub same_break : (c : ℕ) → classes.is_break c ≡ is_break c
unfolding classes.is_break is_break
same_break c = refl

pub same_blank : (c : ℕ) → classes.is_blank c ≡ is_blank c
unfolding classes.is_blank is_blank
same_blank c = refl

-- ---- document markers

pub and_false : (b : Bool) → (b && false) ≡ false
and_false b = and-false b

pub or_false : (b : Bool) → (b || false) ≡ b
or_false b = or-false b

pub same_gap : (c : ℕ) → classes.is_blank_or_end c ≡ is_blank_or_breakz c
unfolding classes.is_blank_or_end classes.is_blank classes.is_break classes.is_nul is_blank is_break
same_gap c = or_assoc (is_blank c) (is_break c) (c == 0)

pub same_marker : (col : ℕ) (a : List ℕ) → at_marker col a ≡ ((col == 0) && classes.is_document_marker a)
unfolding at_marker is_marker classes.are_marks is_blank is_break
same_marker col b = grind (arith, and_false, same_gap)

-- ---- codes

pub both : (b c : Bool) → (b ≡ true → c ≡ true) → (c ≡ true → b ≡ true) → b ≡ c
both a c f g = grind arith

pub same_digit : (c : ℕ) → is_hex c ≡ is_digit c 16
unfolding is_hex
same_digit c = both _ _ (λ h. grind (arith, nat_tests)) (λ h. grind (arith, nat_tests))

pub same_code : (n : ℕ) → is_scalar n ≡ is_character_code n
unfolding is_scalar is_character_code
same_code n = both _ _ (λ h. grind (arith, nat_tests)) (λ h. grind (arith, nat_tests))

-- a value stands there or none does
pub cases_Option : {A : Type 0} (o : Option A) → (o ≡ None) ⊎ ((x : A) × (o ≡ Some x))
cases_Option None = inl refl
cases_Option (Some x) = inr (x, refl)

-- ---- escapes

-- so many digits of a code
abbrev pub digits_of : ℕ → Digits
digits_of n = (if n == 2 then Two else (if n == 4 then Four else Eight))

-- what the model makes of the rows of the tables
abbrev pub escape_by_rows : Option ℕ → Option ℕ → Escape
escape_by_rows (Some code) n = Char code
escape_by_rows None (Some n) = Code (digits_of n)
escape_by_rows None None = Unknown

-- what holds of a number, and of each other one, holds
pub row : (c k : ℕ) (P : ℕ → Type 0) → P k → ((c == k) ≡ false → P c) → P c
row c k P at other = elim (cases_Bool (c == k)) [ inl e ↦ rw (eqb-true c k e) at | inr e ↦ other e ]

pub same_escape : (c : ℕ) → escape_of c ≡ escape_by_rows (lookup c escapes) (lookup c numeric_escapes)
unfolding escape_of
same_escape c = grind (arith, nat_tests, row)

-- classes of flow scalars
pub same_flow : (c : ℕ) → classes.is_flow c ≡ is_flow c
unfolding classes.is_flow is_flow
same_flow c = simp (or_assoc, or_false) refl

-- ---- classes of tags

pub same_alpha : (c : ℕ) → classes.is_alpha c ≡ is_alpha c
unfolding classes.is_alpha classes.is_decimal_digit classes.is_letter is_alpha is_alphanumeric
same_alpha c = simp (or_assoc, or_false) refl

pub same_uri : (c : ℕ) → classes.is_uri c ≡ is_uri c
unfolding classes.is_uri classes.is_decimal_digit classes.is_letter is_uri is_alphanumeric is_uri_mark
same_uri c = simp (or_assoc, or_false) refl

pub same_tag : (c : ℕ) → classes.is_tag c ≡ is_tag c
unfolding classes.is_tag is_tag
same_tag c = grind (arith, same_uri, same_flow, or_false)
