-- Lemmas about stacks.
use Rattle.yaml_scanner.proofs.Common.{[], ap, arith, get_or, is_empty, length, List, ne_eqb, None, Option, pop, refl, reverse, reverse-append, set, slice_get, Some, sym, top, with_top, ◌++◌, ◌-◌, ◌<◌, ◌==◌, ◌∙◌, ◌∷◌, ◌≡◌, ◌≤◌}
use Rattle.std.proofs.lemmas.List.{nil_from_length, reverse-reverse, length-reverse}
use Rattle.std.proofs.Math.Seq.{set-append_seam}
use Rattle.std.proofs.lemmas.Grind.{common_steps, elements}
use Rattle.std.proofs.lemmas.Option.{slice_get_read}

pub pushed : {A : Type 0} (xs ys : List A) (x : A) → ys ≡ xs ++ x ∷ [] → reverse ys ≡ x ∷ reverse xs
pushed xs ys x e = ap reverse e ∙ reverse-append xs (x ∷ [])

pub popped : {A : Type 0} (xs ys : List A) (x : A) → xs ≡ ys ++ x ∷ [] → reverse xs ≡ x ∷ reverse ys
popped xs ys x e = ap reverse e ∙ reverse-append ys (x ∷ [])

pub none_popped : {A : Type 0} (xs : List A) → length xs ≡ 0 → reverse xs ≡ []
none_popped xs e = rw (nil_from_length xs e) refl

last_of : {A : Type 0} (zs : List A) (x : A) → slice_get (zs ++ x ∷ []) (length (zs ++ x ∷ []) - 1) ≡ Some x
last_of [] x = refl
last_of (z ∷ zs) x = grind (arith, elements, common_steps, last_of zs x)

top_of : {A : Type 0} (ys : List A) → slice_get (reverse ys) (length (reverse ys) - 1) ≡ top ys
top_of [] = refl
top_of (y ∷ ys) = rw (reverse-append (y ∷ []) ys) (last_of (reverse ys) y)

pub topped : {A : Type 0} (xs : List A) → slice_get xs (length xs - 1) ≡ top (reverse xs)
topped xs = rw reverse-reverse at (top_of (reverse xs))

before_last : {A : Type 0} (zs : List A) (x y : A) → slice_get (zs ++ y ∷ x ∷ []) (length (zs ++ y ∷ x ∷ []) - 2) ≡ Some y
before_last [] x y = refl
before_last (z ∷ zs) x y = grind (arith, elements, common_steps, before_last zs x y)

-- the item under the top, and where there is none
under_top : {A : Type 0} (ys : List A) → 2 ≤ length (reverse ys) → slice_get (reverse ys) (length (reverse ys) - 2) ≡ top (pop ys)
under_top (x ∷ y ∷ ys) h = rw (reverse-append (x ∷ y ∷ []) ys) (before_last (reverse ys) x y)
under_top ys h = absurd (omega (arith, h))

pub under_read : {A : Type 0} (xs : List A) (x : A) → 2 ≤ length xs → x ≡ get_or xs (length xs - 2) x → Some x ≡ top (pop (reverse xs))
under_read xs x h e = sym (slice_get_read xs (length xs) (length xs - 2) x refl (omega (arith, h)) e) ∙ (rw reverse-reverse at (under_top (reverse xs))) h

pub none_under : {A : Type 0} (xs : List A) → length xs < 2 → ◌≡◌ {A = Option A} None (top (pop (reverse xs)))
none_under (x ∷ y ∷ xs) h = absurd (omega (arith, h))
none_under xs h = refl

set_top : {A : Type 0} (ys : List A) (y : A) → reverse (set (reverse ys) (length (reverse ys) - 1) y) ≡ with_top y ys
set_top [] y = refl
set_top (x ∷ ys) y =
    let n : length (reverse (x ∷ ys)) - 1 ≡ length (reverse ys) = rw (reverse-append (x ∷ []) ys) (grind (arith, elements, common_steps)) in
    rw (n, reverse-append (x ∷ []) ys, set-append_seam (reverse ys) x [] y, reverse-append (reverse ys) (y ∷ []), reverse-reverse ys) refl

pub top_set : {A : Type 0} (xs zs : List A) (y : A) → zs ≡ set xs (length xs - 1) y → reverse zs ≡ with_top y (reverse xs)
top_set xs zs y e = ap reverse e ∙ rw reverse-reverse at (set_top (reverse xs) y)

pub none_set : {A : Type 0} (xs : List A) (y : A) → length xs ≡ 0 → reverse xs ≡ with_top y (reverse xs)
none_set xs y e = rw (nil_from_length xs e) refl

pub reversed_len : {A : Type 0} (xs : List A) → length xs ≡ length (reverse xs)
reversed_len xs = sym (length-reverse xs)

nil_of : {A : Type 0} (ys : List A) → (length (reverse ys) == 0) ≡ is_empty ys
nil_of [] = refl
nil_of (y ∷ ys) = let n = length-reverse (y ∷ ys) in ne_eqb (length (reverse (y ∷ ys))) 0 (λ z. absurd (omega (arith, n, z)))

pub reversed_nil : {A : Type 0} (xs : List A) → (length xs == 0) ≡ is_empty (reverse xs)
reversed_nil xs = rw reverse-reverse at (nil_of (reverse xs))
