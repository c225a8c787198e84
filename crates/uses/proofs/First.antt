-- The first of things that are seen as one.
use Rattle.std.proofs.Common.{◌≡◌, List, [], ◌∷◌, Some, None, ap, ◌∙◌}
use Rattle.std.specs.Prelude.{map, slice_get}
use Rattle.std.proofs.lemmas.Option.{same_Some}

head_is : {B : Type 0} {x t : B} {xs : List B} → x ∷ xs ≡ t ∷ [] → x ≡ t
head_is e = cc

pub first_is : {A B : Type 0} (f : A → B) (ys zs : List A) (t : B) (y : A) → map f ys ≡ t ∷ [] → zs ≡ ys → Some y ≡ slice_get zs 0 → f y ≡ t
first_is f [] zs t y e s q = cc
first_is f (x ∷ ys) zs t y e s q = ap f (same_Some y x (q ∙ ap (λ l. slice_get l 0) s)) ∙ head_is e

pub one_is_there : {A B : Type 0} (f : A → B) (ys zs : List A) (t : B) → map f ys ≡ t ∷ [] → zs ≡ ys → None ≡ slice_get zs 0 → ⊥
one_is_there f [] zs t e s q = cc
one_is_there f (x ∷ ys) zs t e s q = let none : None ≡ Some x = q ∙ ap (λ l. slice_get l 0) s in cc
