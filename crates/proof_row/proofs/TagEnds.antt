-- A tag has one end: a verbatim one its `>`, another one the first gap or flow indicator.
use Rattle.proof_row.proofs.Common.{cases_Bool, [], after, after_mark, all_of, append_assoc, begins_with, begins_with_mark, Bool, eqb-true, false, inl, inr, is_alpha, is_blank, is_blank_or_end, is_break, is_decimal_digit, is_flow, is_letter, is_nul, is_same, is_tag, is_uri, leading, List, named, not, refl, shorthand, Some, subst, sym, Tag, TagsHaveOneEnd, true, verbatim, written_tag, ℕ, ◌&&◌, ◌++◌, ◌==◌, ◌∷◌, ◌≡◌, ◌⊎◌, arith, both, joined, same_head, ends_run, runs, gaps, flows, leading_after, all_leading, all_weaker, all_append}

-- ---- the characters of a shorthand

-- neither a gap's character nor a flow indicator
abbrev pub goes_on : ℕ → Bool
goes_on c = not (is_blank_or_end c) && not (is_flow c)

going : (class : ℕ → Bool) (c : ℕ) → (is_blank_or_end c ≡ true → class c ≡ false) → (is_flow c ≡ true → class c ≡ false) → class c ≡ true → goes_on c ≡ true
going class c f g h = grind arith

pub alpha_goes_on : (c : ℕ) → is_alpha c ≡ true → goes_on c ≡ true
unfolding is_alpha is_decimal_digit is_letter
alpha_goes_on c h =
    going is_alpha c (λ f. gaps (λ z. is_alpha z ≡ false) c f refl refl refl refl refl) (λ f. flows (λ z. is_alpha z ≡ false) c f refl refl refl refl refl) h

pub tag_goes_on : (c : ℕ) → is_tag c ≡ true → goes_on c ≡ true
unfolding is_tag is_uri is_flow is_decimal_digit is_letter
tag_goes_on c h =
    going is_tag c (λ f. gaps (λ z. is_tag z ≡ false) c f refl refl refl refl refl) (λ f. flows (λ z. is_tag z ≡ false) c f refl refl refl refl refl) h

-- ---- the two shapes of a tag, after its mark

abbrev IsVerbatim : List ℕ → Type 0
IsVerbatim r = (u : List ℕ) × (r ≡ 60 ∷ (u ++ (62 ∷ []))) × (all_of is_uri u ≡ true)

abbrev IsShorthand : List ℕ → Type 0
IsShorthand r = (all_of goes_on r ≡ true) × (begins_with 60 r ≡ false)

of_named : (name r : List ℕ) (t : Tag) → begins_with_mark r ≡ true → named name r ≡ Some t → all_of goes_on r ≡ true
unfolding is_blank_or_end is_blank is_break is_nul is_flow
of_named name (c ∷ d ∷ r) t m e =
    joined _ _ (subst (λ z. goes_on z ≡ true) (sym (eqb-true c 33 m)) refl) (all_weaker is_tag goes_on tag_goes_on (d ∷ r) (grind arith))
of_named name r t m e = absurd (cc e)

of_shorthand : (c : ℕ) (r : List ℕ) (t : Tag) → shorthand (c ∷ r) ≡ Some t → all_of goes_on (c ∷ r) ≡ true
of_shorthand c r t e = elim (cases_Bool (begins_with_mark (after is_alpha (c ∷ r)))) [
  | inl m ↦ subst (λ z. all_of goes_on z ≡ true) (leading_after is_alpha (c ∷ r))
      (all_append goes_on (leading is_alpha (c ∷ r)) (after is_alpha (c ∷ r)) (all_weaker is_alpha goes_on alpha_goes_on _ (all_leading is_alpha (c ∷ r)))
      (of_named (leading is_alpha (c ∷ r)) (after is_alpha (c ∷ r)) t m (rw m at e)))
  | inr m ↦ all_weaker is_tag goes_on tag_goes_on (c ∷ r) (grind arith)
]

same_one : (r : List ℕ) → is_same r (62 ∷ []) ≡ true → r ≡ 62 ∷ []
same_one [] h = absurd (cc h)
same_one (c ∷ []) h = grind (arith, both, eqb-true)
same_one (c ∷ d ∷ r) h = absurd (cc (both (c == 62) false h).1)

shape : (r : List ℕ) (t : Tag) → after_mark r ≡ Some t → IsVerbatim r ⊎ IsShorthand r
shape [] t e = inr (refl, refl)
shape (c ∷ r) t e = elim (cases_Bool (c == 60)) [
  | inl i ↦ let f : verbatim r ≡ Some t = rw i at e in rw (eqb-true c 60 i) (inl (grind (arith, leading_after, same_one, all_leading)))
  | inr i ↦ inr (of_shorthand c r t (rw i at e), i)
]

-- ---- two tags

-- a verbatim tag's `<` is no part of a shorthand, and ends none
apart : (r s x y : List ℕ) → IsVerbatim r → IsShorthand s → ends_run goes_on y ≡ true → r ++ x ≡ s ++ y → ⊥
unfolding is_blank_or_end is_blank is_break is_nul is_flow
apart r a x y h k g e = grind arith

pub mark_is_first : (p : List ℕ) (t : Tag) → written_tag p ≡ Some t → (r : List ℕ) × (p ≡ 33 ∷ r) × (after_mark r ≡ Some t)
mark_is_first a t e = grind arith

shapes : (r s x y : List ℕ) → IsVerbatim r ⊎ IsShorthand r → IsVerbatim s ⊎ IsShorthand s → ends_run goes_on x ≡ true → ends_run goes_on y ≡ true → r ++ x ≡ s ++ y → (r ≡ s) × (x ≡ y)
unfolding is_uri is_decimal_digit is_letter
shapes r s x y (inl h) (inl k) f g e =
    let same : (h.0 ≡ k.0) × (62 ∷ x ≡ 62 ∷ y) = runs is_uri h.0 k.0 (62 ∷ x) (62 ∷ y) h.2 k.2 refl refl (grind (arith, same_head, append_assoc)) in grind arith
shapes r s x y (inl h) (inr k) f g e = absurd (apart r s x y h k g e)
shapes r s x y (inr h) (inl k) f g e = absurd (apart s r y x k h f (sym e))
shapes r s x y (inr h) (inr k) f g e = runs goes_on r s x y h.0 k.0 f g e

pub tags : TagsHaveOneEnd
tags fl p q x y h k e =
    let m = mark_is_first p h.0 h.1 in
    let n = mark_is_first q k.0 k.1 in
    let same : (m.0 ≡ n.0) × (x ≡ y) = shapes m.0 n.0 x y (shape m.0 h.0 m.2) (shape n.0 k.0 n.2) (grind arith) (grind arith) (grind (arith, same_head)) in grind arith
