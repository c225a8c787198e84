-- Lemmas about what may be a key.
use Rattle.yaml_scanner.proofs.Common.{[], ap, arith, At, Bool, cleared, drop_stale, Err, false, ImplicitKey, is_front, is_overdue, is_required, is_some, is_stale, Key, key_of, keyed_by, length, List, list_any, lowered, map, map-append, map-map, nat_tests, no_implicit, None, Ok, Option, pop, Position, refl, reverse, reverse-append, seen, Some, still, still_implicit, sym, top_implicit, top_key, true, with_top, ℕ, ◌++◌, ◌+◌, ◌∙◌, ◌∷◌, ◌≡◌}
use Rattle.std.proofs.lemmas.List.Sorted.{IsPermutation-reverse, list_any-IsPermutation}
use Rattle.yaml_tokens.specs.declared.problem.Problem.TheVariants as problem
use Rattle.yaml_scanner.proofs.StackLemmas as stack

pub popped : {A : Type 0} (xs ys : List A) (x : A) → xs ≡ ys ++ x ∷ [] → reverse ys ≡ pop (reverse xs)
popped xs ys x e = rw (stack.popped xs ys x e) refl

pub none_popped : {A : Type 0} (xs ys : List A) → length xs ≡ 0 → ys ≡ xs → reverse ys ≡ pop (reverse xs)
none_popped [] ys e f = rw f refl
none_popped (x ∷ xs) ys e f = absurd (omega arith)

pub any_reversed : {A : Type 0} (p : A → Bool) (xs : List A) → list_any p (reverse xs) ≡ list_any p xs
any_reversed p xs = sym (list_any-IsPermutation p xs (reverse xs) (IsPermutation-reverse xs))

pub map_reversed : {A B : Type 0} (f : A → B) (xs : List A) → map f (reverse xs) ≡ reverse (map f xs)
map_reversed f [] = refl
map_reversed f (x ∷ xs) = ap (map f) (reverse-append (x ∷ []) xs) ∙ map-append f (reverse xs) (x ∷ []) ∙ ap (λ ys. ys ++ f x ∷ []) (map_reversed f xs) ∙ sym (reverse-append (f x ∷ []) (map f xs))

-- what is asked of keys does not depend on their numbers
any_all : (f : Option Key → Bool) (g : ℕ) → ((k : ImplicitKey) → f (Some (keyed_by g k)) ≡ f (Some (keyed_by 0 k))) → (ks : List (Option ImplicitKey)) → list_any f (seen g ks) ≡ list_any (λ k. f (key_of 0 k)) ks
any_all f g e [] = refl
any_all f g e (None ∷ ks) = rw (any_all f g e ks) refl
any_all f g e (Some k ∷ ks) = rw (e k, any_all f g e ks) refl

pub any_seen : (f : Option Key → Bool) (g : ℕ) → ((k : ImplicitKey) → f (Some (keyed_by g k)) ≡ f (Some (keyed_by 0 k))) → (ks : List (Option ImplicitKey)) → list_any f (seen g (reverse ks)) ≡ list_any (λ k. f (key_of 0 k)) ks
any_seen f g e ks = any_all f g e (reverse ks) ∙ any_reversed (λ k. f (key_of 0 k)) ks

still_all : (p : Position) (g : ℕ) (ks : List (Option ImplicitKey)) → map (key_of g) (map (still_implicit p) ks) ≡ map (still p) (map (key_of g) ks)
still_all p g [] = refl
still_all p g (None ∷ ks) = ap (λ ls. None ∷ ls) (still_all p g ks)
still_all p g (Some k ∷ ks) = rw (still_all p g ks) (grind arith)

pub overdue_seen : (p : Position) (g : ℕ) (ks : List (Option ImplicitKey)) → list_any (λ k. is_overdue p (key_of 0 k)) ks ≡ true → drop_stale p (seen g (reverse ks)) ≡ Err (At problem.KeyWithoutColon p)
unfolding drop_stale
overdue_seen p g ks h = rw (any_seen (is_overdue p) g (λ k. refl) ks, h) refl

pub still_seen : (p : Position) (g : ℕ) (ks ls : List (Option ImplicitKey)) → list_any (λ k. is_overdue p (key_of 0 k)) ks ≡ false → ls ≡ map (still_implicit p) ks → drop_stale p (seen g (reverse ks)) ≡ Ok (seen g (reverse ls))
unfolding drop_stale
still_seen p g ks ls h f = rw (any_seen (is_overdue p) g (λ k. refl) ks, h, f, ← map_reversed (still_implicit p) ks, still_all p g (reverse ks)) refl

fresh_all : (p : Position) (ks : List (Option ImplicitKey)) → list_any (is_stale p) ks ≡ false → (list_any (λ k. is_overdue p (key_of 0 k)) ks ≡ false) × (map (still_implicit p) ks ≡ ks)
fresh_all p [] h = (refl, refl)
fresh_all p (None ∷ ks) h = let rest = fresh_all p ks h in (rest.0, ap (λ ls. None ∷ ls) rest.1)
fresh_all p (Some k ∷ ks) h = let rest = fresh_all p ks in (grind arith, grind arith)

-- where no key is too far back, all stay
pub fresh_seen : (p : Position) (g : ℕ) (ks : List (Option ImplicitKey)) → list_any (is_stale p) ks ≡ false → drop_stale p (seen g (reverse ks)) ≡ Ok (seen g (reverse ks))
fresh_seen p g ks h = let all = fresh_all p ks h in still_seen p g ks ks all.0 (sym all.1)

pub cleared_all : (g : ℕ) (ks : List (Option ImplicitKey)) → seen g (map no_implicit ks) ≡ cleared (seen g ks)
cleared_all g ks = simp map-map refl

pub cleared_seen : (g : ℕ) (ks ls : List (Option ImplicitKey)) → ls ≡ map no_implicit ks → seen g (reverse ls) ≡ cleared (seen g (reverse ks))
cleared_seen g ks ls e = rw (e, ← map_reversed no_implicit ks) (cleared_all g (reverse ks))

pub required_top : (g : ℕ) (k : Option ImplicitKey) (ks : List (Option ImplicitKey)) → k ≡ top_implicit ks → is_required (key_of 0 k) ≡ is_required (top_key (seen g ks))
required_top g k [] e = rw e refl
required_top g k (None ∷ ks) e = rw e refl
required_top g k (Some l ∷ ks) e = rw e refl

pub with_top_seen : (g : ℕ) (k : Option ImplicitKey) (ks : List (Option ImplicitKey)) → seen g (with_top k ks) ≡ with_top (key_of g k) (seen g ks)
with_top_seen g k [] = refl
with_top_seen g k (l ∷ ks) = refl

pub pop_seen : (g : ℕ) (ks : List (Option ImplicitKey)) → seen g (pop ks) ≡ pop (seen g ks)
pop_seen g [] = refl
pop_seen g (l ∷ ks) = refl

-- While no key is open at the front, a token that is handed out leaves the keys as they are.
pub lowered_seen : (g : ℕ) (ks : List (Option ImplicitKey)) → list_any is_front ks ≡ false → seen (g + 1) (map lowered ks) ≡ seen g ks
lowered_seen g [] e = refl
lowered_seen g (None ∷ ks) e = ap (λ ls. None ∷ ls) (lowered_seen g ks e)
lowered_seen g (Some k ∷ ks) e = let rest = lowered_seen g ks in grind (arith, nat_tests)

-- ---- where no level has a key

pub none_found : (ks : List (Option ImplicitKey)) → list_any is_some ks ≡ false → map no_implicit ks ≡ ks
none_found [] e = refl
none_found (None ∷ ks) e = ap (λ ls. None ∷ ls) (none_found ks e)
none_found (Some k ∷ ks) e = absurd cc

any_none : (f : Option ImplicitKey → Bool) → f None ≡ false → (ks : List (Option ImplicitKey)) → list_any f (map no_implicit ks) ≡ false
any_none f n [] = refl
any_none f n (k ∷ ks) = rw n (any_none f n ks)

pub none_any : (f : Option ImplicitKey → Bool) → f None ≡ false → (ks : List (Option ImplicitKey)) → map no_implicit ks ≡ ks → list_any f ks ≡ false
none_any f n ks e = ap (list_any f) (sym e) ∙ any_none f n ks

pub none_lowered : (ks : List (Option ImplicitKey)) → map no_implicit ks ≡ ks → map lowered ks ≡ ks
none_lowered ks e = ap (map lowered) (sym e) ∙ simp map-map refl ∙ e

pub none_reversed : (ks : List (Option ImplicitKey)) → map no_implicit ks ≡ ks → map no_implicit (reverse ks) ≡ reverse ks
none_reversed ks e = map_reversed no_implicit ks ∙ ap reverse e
