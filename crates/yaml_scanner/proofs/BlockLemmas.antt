-- The next character is the first of the text that is left.
use Rattle.yaml_scanner.proofs.Common.{[], List, peek, refl, slice_index, ℕ, ◌∷◌, ◌≡◌}

pub peek_is : (a : List ℕ) → slice_index a 0 ≡ peek a
peek_is [] = refl
peek_is (c ∷ a) = refl
