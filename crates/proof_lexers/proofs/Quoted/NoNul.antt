-- A body that has elements has no NUL, and a line of it begins with a marker before the closing quote just where it does in the body.
use Rattle.proof_lexers.proofs.Common.{[], arith, begins_with_marker, Bool, Context, drop, Element, element_of, elements, false, followed, has_document_marker, has_marker, is_document_marker, le-ltb, List, list_all, nat_lt, nothing, Option, Position, quote_of, refl, Some, Spelled, suc, true, zero, ℕ, ◌++◌, ◌∷◌, ◌≡◌, is_some, are_marks, is_blank_or_end, is_nul, and_false, or_false}
use Rattle.defs_text.specs.Classes as classes
use Rattle.proof_lexers.proofs.Quoted.Turns.{no_marker, StepOf}
use Rattle.proof_lexers.proofs.Quoted.Elements.{step}

pub no_less : (n : ℕ) → nat_lt n 0 ≡ false
no_less n = le-ltb n 0 (omega arith)

-- outside all collections, after a line's first character
abbrev outside : Context
outside = record { flow = false; indent = 0 }

abbrev second : Position
second = record { index = 1; line = 1; col = 1 }

module _ (single : Bool) where
  abbrev HasNone : ℕ → List ℕ → Type 0
  HasNone n a = (es : List Element) → elements (element_of single) n a ≡ Some es → list_all is_some (drop n a) ≡ true

  by_element : (c : ℕ) (b : List ℕ) (o : Option Spelled) (es : List Element) → followed o (λ n. elements (element_of single) n b) ≡ Some es → ((n : ℕ) → HasNone n b) → StepOf single outside second c b [] second nothing o
      → list_all is_some (c ∷ b) ≡ true
  by_element c b a es e others z = grind (arith, no_less, elements, single)

  pub has_none : (n : ℕ) (a : List ℕ) → HasNone n a
  has_none (suc n) (c ∷ b) es h = has_none n b es h
  has_none zero (c ∷ b) es h = by_element c b (element_of single c b) es h (λ n. has_none n b) (step single outside second c b [] second nothing refl)
  has_none n a es h = refl

-- ---- document markers

-- with the closing quote after it a body begins with a marker just where it does alone
marker_here : (single : Bool) (a r : List ℕ) → list_all is_some a ≡ true → is_document_marker (a ++ quote_of single ∷ r) ≡ begins_with_marker a
unfolding begins_with_marker are_marks is_blank_or_end classes.is_blank classes.is_break is_nul
marker_here b d r h = grind (arith, no_marker, and_false, or_false)

pub same_marks : (single : Bool) (a r : List ℕ) → list_all is_some a ≡ true → has_marker a (quote_of single ∷ r) ≡ has_document_marker a
same_marks single [] r h = refl
same_marks single (c ∷ a) r h = grind (arith, marker_here, same_marks single a r)
