-- Where a tree can be written, what it is after its merges can be.
use Rattle.overlay.proofs.Common.{AllHaveText, AllPairsHaveText, arith, array, Each, each_merged, EachItem, hash, IsWritable, item, item_levels, Items, items_of, merged, merged_items, merged_pairs, merged_values, no_items, no_pairs, Opens, pair, pair_levels, Pairs, suc, Tree, zero, ℕ, ◌<◌, ◌^◌}
use Rattle.overlay.proofs.WritableLemmas.{Fits, IsKey, each_of, all_of}

each_item : (n : ℕ) (ts : Items) → item_levels ts < n → AllHaveText ts → EachItem (Fits n) ts
each_item n no_items low h = tt
each_item n (item t ts) low h = ((omega arith, h.0), each_item n ts (omega arith) h.1)

opens : (n : ℕ) → Opens (IsKey n) (Fits n)
opens n = ((λ ps h. each_of n ps (omega arith) h.1), (λ ts h. each_item n ts (omega arith) h.1))

mutual
  merged_fits : (n : ℕ) (t : Tree) → Fits n t → Fits n (merged t)
  merged_fits zero t h = absurd (omega arith)
  merged_fits (suc n) (array ts) h = let r = items_fit n ts (omega arith) h.1 in (omega arith, r.1)
  merged_fits (suc n) (hash ps) h =
      let each = each_merged (IsKey n) (Fits n) (opens n) (merged_values ps) (values_fit n ps (omega arith) h.1) in
      let r = all_of n (merged_pairs (merged_values ps)) (omega arith) each in
      (omega arith, r.1)
  merged_fits (suc n) t h = h

  items_fit : (n : ℕ) (ts : Items) → item_levels ts < n → AllHaveText ts
      → (item_levels (items_of (merged_items ts)) < n) × AllHaveText (items_of (merged_items ts))
  items_fit n no_items low h = (low, tt)
  items_fit n (item t ts) low h =
      let r = merged_fits n t (omega arith, h.0) in
      let s = items_fit n ts (omega arith) h.1 in
      (omega arith, (r.1, s.1))

  values_fit : (n : ℕ) (ps : Pairs) → pair_levels ps < n → AllPairsHaveText ps → Each (IsKey n) (Fits n) (merged_values ps)
  values_fit n no_pairs low h = tt
  values_fit n (pair k v ps) low h = (((omega arith, h.0, h.1), merged_fits n v (omega arith, h.2)), values_fit n ps (omega arith) h.3)

pub merged_is_writable : (t : Tree) → IsWritable t → IsWritable (merged t)
merged_is_writable t h = let r = merged_fits (2 ^ 62) t (h.shallow, h.has_text) in record { shallow = r.0; has_text = r.1 }
