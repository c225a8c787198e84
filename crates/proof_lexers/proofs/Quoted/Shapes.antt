-- Each text after an opening quote is a body and its closing quote, or has none, or an escape in it is none.
use Rattle.proof_lexers.proofs.Common.{[], and_parts, ap, append_assoc, Bool, double_quoted_element, drop, element_of, elements, ends_before, eqb-true, escape, false, HasElements, List, list_all, None, not-true, Option, plain_element, quote_of, refl, single_quoted_element, Some, Spelled, suc, sym, take, take-append-drop, true, zero, ℕ, ◌++◌, ◌==◌, ◌∙◌, ◌∷◌, ◌≡◌, arith, is_some, is_nul}
use Rattle.proof_lexers.proofs.Quoted.Local.{Local, LocalOf, local, after_some, after_own}

-- a text after an opening quote
pub data Shape (single : Bool) (text : List ℕ) : Type 0 where
  closed : (body rest : List ℕ) → text ≡ body ++ quote_of single ∷ rest → HasElements single body → ends_before single rest ≡ true → Shape single text
  unclosed : HasElements single text → Shape single text
  badly_escaped : (body rest : List ℕ) → single ≡ false → text ≡ body ++ 92 ∷ rest → HasElements single body → escape rest ≡ None → Shape single text

-- ---- one element more

module _ (single : Bool) (c : ℕ) (b : List ℕ) (s : Spelled) (is : element_of single c b ≡ Some s) (own : Local (element_of single c) b s) where
  abbrev before : List ℕ → List ℕ
  before body = c ∷ (take s.further b ++ body)

  cut : (body rest : List ℕ) → drop s.further b ≡ body ++ rest → c ∷ b ≡ before body ++ rest
  cut body rest e = ap (λ r. c ∷ r) (sym (take-append-drop s.further b) ∙ ap (λ r. take s.further b ++ r) e ∙ sym (append_assoc (take s.further b) body rest))

  more : (body rest : List ℕ) → drop s.further b ≡ body ++ rest → HasElements single body → HasElements single (before body)
  more body rest e (es, h) = (s.element ∷ es, rw (own.same body rest e, (ap (λ n. elements (element_of single) n (take s.further b ++ body)) (sym own.fits) ∙ after_own (element_of single) (take s.further b) body), h) refl)

  grown : Shape single (drop s.further b) → Shape single (c ∷ b)
  grown (closed body rest e has ends) = closed (before body) rest (cut body (quote_of single ∷ rest) e) (more body (quote_of single ∷ rest) e has) ends
  grown (unclosed (es, h)) = unclosed (s.element ∷ es, rw (is, after_some (element_of single) s.further b, h) refl)
  grown (badly_escaped body rest double e has bad) = badly_escaped (before body) rest double (cut body (92 ∷ rest) e) (more body (92 ∷ rest) e has) bad

-- ---- no element

-- a closing quote, or a backslash and no escape
pub data NoElement (single : Bool) (c : ℕ) (b : List ℕ) : Type 0 where
  closing : c ≡ quote_of single → ends_before single b ≡ true → NoElement single c b
  slash : single ≡ false → c ≡ 92 → escape b ≡ None → NoElement single c b

pub no_element : (single : Bool) (c : ℕ) (b : List ℕ) → (c == 0) ≡ false → element_of single c b ≡ None → NoElement single c b
unfolding single_quoted_element double_quoted_element is_nul plain_element
no_element single c b nul h = grind (arith, closing, slash, eqb-true)

-- ---- every text

shape_by : (single : Bool) (c : ℕ) (b : List ℕ) (o : Option Spelled) → (c == 0) ≡ false → element_of single c b ≡ o → LocalOf (element_of single c) b o → ((n : ℕ) → Shape single (drop n b)) → Shape single (c ∷ b)
shape_by single c b None nul e z others = elim (no_element single c b nul e) [
  | closing q ends ↦ closed [] b (ap (λ x. x ∷ b) q) ([], refl) ends
  | slash double q bad ↦ badly_escaped [] b double (ap (λ x. x ∷ b) q) ([], refl) bad
]
shape_by single c b (Some s) nul e z others = grown single c b s e z (others s.further)

shape_from : (single : Bool) (n : ℕ) (a : List ℕ) → list_all is_some a ≡ true → Shape single (drop n a)
shape_from single (suc n) (c ∷ b) h = shape_from single n b ((and_parts (is_some c) (list_all is_some b) h).1)
shape_from single zero (c ∷ b) h =
    let q = and_parts (is_some c) (list_all is_some b) h in
    shape_by single c b (element_of single c b) (not-true (c == 0) q.0) refl (local single c b) (λ n. shape_from single n b q.1)
shape_from single n a h = unclosed ([], refl)

pub shape_of : (single : Bool) (a : List ℕ) → list_all is_some a ≡ true → Shape single a
shape_of single a h = shape_from single 0 a h
