-- Where a key's pair stands in a list of pairs, and what that says of the list. For code that searches.
use Rattle.defs_tree.proofs.Common.{[], ap, AreDistinct, arith, cond, false, inl, inr, Lacks, length, List, lookup, None, Option, option_and_then, place_of, refl, Some, subst, suc, sym, Tree, tree_eq, true, value_at, with_value, with_value_at, without, zero, ℕ, ◌<◌, ◌∙◌, ◌∷◌, ◌≡◌, ◌⊎◌}

-- a place of the key: within the list, with the key's value
pub record IsPlaceOf (k : Tree) (us : List (Tree × Tree)) (i : ℕ) : Type 0 where
  pub within : i < length us
  pub found : value_at i us ≡ lookup k us
  pub changed : (t : Tree) → with_value_at i t us ≡ with_value k t us

pub place_in : (k : Tree) (us : List (Tree × Tree)) (i : ℕ) → Some i ≡ place_of k us → IsPlaceOf k us i
place_in k [] i e = cc
place_in k (u ∷ us) i e = from (grind arith) (place_in k us)
  where
    from : ((tree_eq k u.0 ≡ true) × (i ≡ 0)) ⊎ ((tree_eq k u.0 ≡ false) × ((j : ℕ) × (i ≡ suc j) × (Some j ≡ place_of k us)))
        → ((j : ℕ) → Some j ≡ place_of k us → IsPlaceOf k us j) → IsPlaceOf k (u ∷ us) i
    from (inl h) later = grind arith
    from (inr h) later =
        let r = later h.1.0 h.1.2 in
        subst (IsPlaceOf k (u ∷ us)) (sym h.1.1) (record {
          within = omega (arith, r.within);
          found = r.found ∙ sym (ap (λ b. cond b (Some u.1) (lookup k us)) h.0);
          changed = λ t. ap (λ vs. u ∷ vs) (r.changed t) ∙ sym (ap (λ b. cond b ((u.0, t) ∷ us) (u ∷ with_value k t us)) h.0);
        })

-- a key without a place: it isn't found, and taking it out changes nothing
pub record IsAbsent (k : Tree) (ps : List (Tree × Tree)) : Type 0 where
  pub unfound : lookup k ps ≡ None
  pub same : without k ps ≡ ps
  pub unchanged : (t : Tree) → with_value k t ps ≡ ps

pub absent : (k : Tree) (ps : List (Tree × Tree)) → None ≡ place_of k ps → IsAbsent k ps
absent k [] e = grind (arith)
absent k (p ∷ ps) e = grind (arith, absent k ps)

-- the value at the key's place is the key's value
pub place_finds : (k : Tree) (ps : List (Tree × Tree)) → option_and_then (λ i. value_at i ps) (place_of k ps) ≡ lookup k ps
place_finds k ps = by (place_of k ps) refl
  where
    by : (o : Option ℕ) → o ≡ place_of k ps → option_and_then (λ i. value_at i ps) o ≡ lookup k ps
    by None e = sym ((absent k ps e).unfound)
    by (Some i) e = (place_in k ps i e).found

-- ---- another value at a place

Lacks-with_value_at : (l : Tree) (i : ℕ) (t : Tree) (us : List (Tree × Tree)) → Lacks l us → Lacks l (with_value_at i t us)
Lacks-with_value_at l i t [] h = tt
Lacks-with_value_at l zero t (u ∷ us) h = h
Lacks-with_value_at l (suc i) t (u ∷ us) h = (h.0, Lacks-with_value_at l i t us h.1)

pub AreDistinct-with_value_at : (i : ℕ) (t : Tree) (us : List (Tree × Tree)) → AreDistinct us → AreDistinct (with_value_at i t us)
AreDistinct-with_value_at i t [] h = tt
AreDistinct-with_value_at zero t (u ∷ us) h = h
AreDistinct-with_value_at (suc i) t (u ∷ us) h = (Lacks-with_value_at u.0 i t us h.0, AreDistinct-with_value_at i t us h.1)
