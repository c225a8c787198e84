-- Each text is lines, each with its break as written, and a last line without one.
use Rattle.proof_lexers.proofs.Common.{[], and-false, and_parts, ap, cases_Bool, eqb-true, false, inl, inr, is_break, is_in_line, List, or_cases, refl, slice_index, Split, split, true, with_empty_line, ℕ, ◌&&◌, ◌++◌, ◌==◌, ◌∙◌, ◌∷◌, ◌≡◌, arith, nat_tests, not, not-true, same_break}
use Rattle.defs_text.specs.Classes as classes

-- the first character of a line, and the others
pub first_inner : (c : ℕ) (w : List ℕ) → is_in_line (c ∷ w) ≡ true → (is_break c ≡ false) × (is_in_line w ≡ true)
first_inner c w h = let q = and_parts (not (classes.is_break c)) (is_in_line w) h in (rw (← same_break c) (not-true _ q.0), q.1)

-- a break as written: LF, CR, or CR LF
pub data Break : Type 0 where
  feed : Break
  carriage : Break
  both : Break

-- a line and its break
pub record Line : Type 0 where
  pub text : List ℕ
  pub by : Break

-- a break before a text
abbrev pub put : Break → List ℕ → List ℕ
put feed a = 10 ∷ a
put carriage a = 13 ∷ a
put both a = 13 ∷ 10 ∷ a

-- lines before a text
abbrev pub spell : List Line → List ℕ → List ℕ
spell [] a = a
spell (l ∷ ls) a = l.text ++ put l.by (spell ls a)

abbrev pub texts : List Line → List (List ℕ)
texts [] = []
texts (l ∷ ls) = l.text ∷ texts ls

-- a CR before a LF is no break of its own
abbrev pub Fits : Break → List ℕ → Type 0
Fits feed a = Unit {0}
Fits carriage a = (slice_index a 0 == 10) ≡ false
Fits both a = Unit {0}

abbrev pub AreLines : List Line → List ℕ → Type 0
AreLines [] a = Unit {0}
AreLines (l ∷ ls) a = (is_in_line l.text ≡ true) × Fits l.by (spell ls a) × AreLines ls a

-- a text by its lines
pub record Lined (a : List ℕ) : Type 0 where
  pub lines : List Line
  pub last : List ℕ
  pub is : a ≡ spell lines last
  pub are : AreLines lines last
  pub inner : is_in_line last ≡ true

-- ---- each text has its lines

module _ (c : ℕ) (a : List ℕ) (z : Lined a) where
  char_line : (ls : List Line) → a ≡ spell ls z.last → AreLines ls z.last → is_break c ≡ false → Lined (c ∷ a)
  char_line [] is are h = grind (arith, same_break)
  char_line (l ∷ ls) is are h = record { lines = record { text = c ∷ l.text; by = l.by } ∷ ls; last = z.last; is = ap (λ r. c ∷ r) is; are = (rw (same_break c, h) (are.0), are.1, are.2); inner = z.inner }

  lone_break : is_break c ≡ true → ((c == 13) && (slice_index a 0 == 10)) ≡ false → Lined (c ∷ a)
  unfolding is_break
  lone_break h e = elim (or_cases (c == 10) (c == 13) h) [
    | inl g ↦ let so = eqb-true c 10 g in record { lines = record { text = []; by = feed } ∷ z.lines; last = z.last; is = rw so (ap (λ r. 10 ∷ r) z.is); are = (refl, tt, z.are); inner = z.inner }
    | inr k ↦
        let so = eqb-true c 13 k in
        let no : (slice_index a 0 == 10) ≡ false = rw k at e in
        let fits : (slice_index (spell z.lines z.last) 0 == 10) ≡ false = rw (z.is) at no in
        record { lines = record { text = []; by = carriage } ∷ z.lines; last = z.last; is = rw so (ap (λ r. 13 ∷ r) z.is); are = (refl, fits, z.are); inner = z.inner }
  ]

two_breaks : (a : List ℕ) → Lined a → Lined (13 ∷ 10 ∷ a)
two_breaks a z = record { lines = record { text = []; by = both } ∷ z.lines; last = z.last; is = ap (λ r. 13 ∷ 10 ∷ r) z.is; are = (refl, tt, z.are); inner = z.inner }

pub lined : (a : List ℕ) → Lined a
lined [] = record { lines = []; last = []; is = refl; are = tt; inner = refl }
lined (c ∷ []) = let z = lined [] in elim (cases_Bool (is_break c)) [ inl e ↦ lone_break c [] z e (and-false (c == 13)) | inr e ↦ char_line c [] z z.lines z.is z.are e ]
lined (c ∷ d ∷ a) =
    grind (arith, nat_tests, cases_Bool, char_line, and_parts, eqb-true, two_breaks, lone_break, lined (d ∷ a), lined a)

-- ---- the lines of the text are these

abbrev of_lines : List (List ℕ) → List ℕ → Split
of_lines ls w = record { complete = ls; last = w }

split_last : (w : List ℕ) → is_in_line w ≡ true → split w ≡ of_lines [] w
split_last [] h = refl
split_last (c ∷ w) h = grind (arith, first_inner, same_break, split_last w)

split_line : (w a : List ℕ) (ls : List (List ℕ)) (r : List ℕ) → is_in_line w ≡ true → split a ≡ of_lines ([] ∷ ls) r → split (w ++ a) ≡ of_lines (w ∷ ls) r
split_line [] a ls r h e = e
split_line (c ∷ w) a ls r h e = grind (arith, first_inner, same_break, split_line w a ls r)

pub split_spell : (ls : List Line) (r : List ℕ) → AreLines ls r → is_in_line r ≡ true → split (spell ls r) ≡ of_lines (texts ls) r
unfolding classes.is_break
split_spell [] r are h = split_last r h
split_spell (l ∷ ls) r are h =
    split_line l.text (put l.by (spell ls r)) (texts ls) r are.0 ((grind (arith)) ∙ ap with_empty_line (split_spell ls r are.2 h))
