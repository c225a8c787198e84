-- What an element of a body is depends on its own characters alone, and on whether a CR ends a line alone.
use Rattle.proof_lexers.proofs.Common.{[], and-false, ap, arith, begins_with, Bool, break_further, cases_Bool, content, double_quoted_element, drop, element_of, elements, eqb-true, escape, escape_by, escaped_break, escapes, false, hexadecimal, inl, inr, is_character_code, length, length-take, List, lookup, None, numbered, numeric_escape, numeric_escapes, Option, plain_element, refl, single_quoted_element, Some, Spelled, suc, take, take-append-le, take_at, true, ℕ, ◌++◌, ◌==◌, ◌∷◌, ◌≡◌, nat_tests}
use Rattle.defs_text.specs.Classes as classes
use Rattle.proof_lexers.proofs.Quoted.Turns.{spelled}

-- The characters that belong to what a function finds at a text's start are there, and it finds it too where the text is cut after them, or goes on, if not with a line feed.
pub record Local (at : List ℕ → Option Spelled) (b : List ℕ) (s : Spelled) : Type 0 where
  pub fits : length (take s.further b) ≡ s.further
  pub same : (x y : List ℕ) → drop s.further b ≡ x ++ y → at (take s.further b ++ x) ≡ Some s
  pub onward : (r : List ℕ) → begins_with 10 r ≡ false → at (b ++ r) ≡ Some s

abbrev pub LocalOf : (List ℕ → Option Spelled) → List ℕ → Option Spelled → Type 0
LocalOf at b None = Unit {0}
LocalOf at b (Some s) = Local at b s

-- ---- double quotes

escape_broken : (d : ℕ) (b : List ℕ) → classes.is_break d ≡ true → Local escape (d ∷ b) (spelled escaped_break (suc (break_further d b)))
unfolding escape
escape_broken d b e = record { fits = ap suc (grind arith); same = λ x y h. rw e (ap (λ k. Some (spelled escaped_break (suc k))) (grind arith)); onward = λ r h. rw e (ap (λ k. Some (spelled escaped_break (suc k))) (grind (arith, and-false))) }

coded_same : (n code : ℕ) (b x : List ℕ) → length (take n b) ≡ n → (length (take n b) == n) ≡ true → hexadecimal 0 (take n b) ≡ Some code → is_character_code code ≡ true → numeric_escape n (take n b ++ x) ≡ Some (spelled (content code) (suc n))
unfolding numeric_escape
coded_same n code b x fits many digits valid = let front = take_at (take n b) x n fits in rw (front, many, digits, valid) refl

by_rows : (d : ℕ) (b : List ℕ) (o n : Option ℕ) → classes.is_break d ≡ false → lookup d escapes ≡ o → lookup d numeric_escapes ≡ n → LocalOf escape (d ∷ b) (escape_by o n b)
unfolding numeric_escape escape
by_rows d b (Some code) n e f g = record { fits = refl; same = λ x y h. rw (e, f) refl; onward = λ r h. rw (e, f) refl }
by_rows d b None None e f g = tt
by_rows d b None (Some n) e f g = elim (cases_Bool (length (take n b) == n)) [ inl many ↦ rw many (of_number (hexadecimal 0 (take n b)) many refl) | inr many ↦ rw many tt ]
  where
    of_number : (o : Option ℕ) → (length (take n b) == n) ≡ true → hexadecimal 0 (take n b) ≡ o → LocalOf escape (d ∷ b) (numbered n o)
    of_number None many digits = tt
    of_number (Some code) many digits = elim (cases_Bool (is_character_code code)) [ inl valid ↦ rw valid (grind (arith, nat_tests, eqb-true, coded_same, length-take, take-append-le)) | inr valid ↦ rw valid tt ]

escape_local : (b : List ℕ) → LocalOf escape b (escape b)
unfolding escape
escape_local b = grind (arith, escape_broken, by_rows)

-- ---- either

pub local : (single : Bool) (c : ℕ) (b : List ℕ) → LocalOf (element_of single c) b (element_of single c b)
unfolding double_quoted_element plain_element single_quoted_element
local a c b = grind (arith, nat_tests, escape_local)

-- elements after so many characters are those of the text after them
pub after_some : (at : ℕ → List ℕ → Option Spelled) (n : ℕ) (b : List ℕ) → elements at n b ≡ elements at 0 (drop n b)
after_some at (suc n) (c ∷ b) = after_some at n b
after_some at n b = refl

pub after_own : (at : ℕ → List ℕ → Option Spelled) (w x : List ℕ) → elements at (length w) (w ++ x) ≡ elements at 0 x
after_own at [] x = refl
after_own at (c ∷ w) x = after_own at w x
