-- Digits, as the code reads them: from left to right.
use Rattle.yaml_tree.proofs.TypingCommon.{[], after_all, arith, at_least_one, begins_in, Bool, is_ascii_digit, is_empty, List, list_all, refl, ℕ, ◌&&◌, ◌∷◌, ◌≡◌}

pub all_after : (p : ℕ → Bool) (t : List ℕ) → list_all p t ≡ is_empty (after_all p t)
all_after p [] = refl
all_after p (c ∷ cs) = grind (arith, all_after p cs)

-- digits alone, where a digit stands first and nothing stands after the digits
pub digits_only : (t : List ℕ) → at_least_one is_ascii_digit t ≡ (begins_in is_ascii_digit t && is_empty (after_all is_ascii_digit t))
digits_only [] = refl
digits_only (c ∷ cs) = grind (arith, all_after is_ascii_digit cs)
