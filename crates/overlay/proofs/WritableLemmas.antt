-- Of two trees that can be written, the overlay can be written.
use Rattle.overlay.proofs.Common.{[], AllPairsHaveText, arith, Each, each_append, each_lookup, each_new, hash, HasText, IsShortKey, IsWritable, laid_value, levels, List, lookup, new_pairs, no_pairs, overlay, pair, pair_levels, pair_list_of, Pairs, pairs_of, pairs_under, suc, Tree, zero, ℕ, ◌++◌, ◌<◌, ◌^◌, ◌∷◌}

-- a tree of fewer levels than so many, which has a text
abbrev pub Fits : ℕ → Tree → Type 0
Fits n t = (levels t < n) × HasText t

-- such a key, which is short
abbrev pub IsKey : ℕ → Tree → Type 0
IsKey n k = (levels k < n) × IsShortKey k × HasText k

pub each_of : (n : ℕ) (ps : Pairs) → pair_levels ps < n → AllPairsHaveText ps → Each (IsKey n) (Fits n) (pair_list_of ps)
each_of n no_pairs low h = tt
each_of n (pair k v ps) low h = (((omega arith, h.0, h.1), (omega arith, h.2)), each_of n ps (omega arith) h.3)

pub all_of : (n : ℕ) (ps : List (Tree × Tree)) → 0 < n → Each (IsKey n) (Fits n) ps
    → (pair_levels (pairs_of ps) < n) × AllPairsHaveText (pairs_of ps)
all_of n [] some h = (some, tt)
all_of n (p ∷ ps) some h =
    let r = all_of n ps some h.1 in
    let k = h.0.0.0 in
    let v = h.0.1.0 in
    (omega arith, (h.0.0.1, h.0.0.2, h.0.1.1, r.1))

mutual
  laid_fits : (n : ℕ) (t u : Tree) → Fits n t → Fits n u → Fits n (overlay t u)
  laid_fits zero t u h g = absurd (omega arith)
  laid_fits (suc n) (hash ps) (hash qs) h g =
      let us = pair_list_of qs in
      let each = each_of n qs (omega arith) g.1 in
      let under = under_fits n us ps each (omega arith) h.1 in
      let new = each_new (IsKey n) (Fits n) (pair_list_of ps) us each in
      let all = each_append (IsKey n) (Fits n) (pairs_under us ps) (new_pairs (pair_list_of ps) us) under new in
      let r = all_of n (pairs_under us ps ++ new_pairs (pair_list_of ps) us) (omega arith) all in
      (omega arith, r.1)
  laid_fits (suc n) t u h g = g

  under_fits : (n : ℕ) (us : List (Tree × Tree)) (ps : Pairs) → Each (IsKey n) (Fits n) us → pair_levels ps < n → AllPairsHaveText ps
      → Each (IsKey n) (Fits n) (pairs_under us ps)
  under_fits n us no_pairs each low h = tt
  under_fits n us (pair k v ps) each low h =
      let own : Fits n v = (omega arith, h.2) in
      let over = each_lookup (IsKey n) (Fits n) k us each in (
        ((omega arith, h.0, h.1), laid_value (Fits n) v (overlay v) (lookup k us) own (λ w g. laid_fits n v w own g) over),
        under_fits n us ps each (omega arith) h.3,
      )

pub overlay_is_writable : (t u : Tree) → IsWritable t → IsWritable u → IsWritable (overlay t u)
overlay_is_writable t u h g =
    let r = laid_fits (2 ^ 62) t u (h.shallow, h.has_text) (g.shallow, g.has_text) in record { shallow = r.0; has_text = r.1 }
