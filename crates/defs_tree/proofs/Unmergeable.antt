-- Without merge keys there is nothing that cannot be merged.
use Rattle.defs_tree.proofs.Common.{AllLackMergeKeys, any_node, ap, array, below, first_fault, first_item_fault, first_pair_fault, hash, index, item, Items, Lacks, LacksMergeKeys, merge_key, no_items, no_pairs, None, option_or, pair, pair_list_of, Pairs, refl, Tree, ValuesLackMergeKeys, ℕ, ◌+◌, ◌∙◌, ◌≡◌, arith}
use Rattle.defs_tree.proofs.PairsLaws.{tree_eq-other}

mutual
  pub no_fault : (t : Tree) → LacksMergeKeys t → first_fault any_node t ≡ None
  no_fault (array ts) h = no_item_fault 0 ts h
  no_fault (hash ps) h = no_pair_fault 0 ps h.0 h.1
  no_fault t h = refl

  no_item_fault : (n : ℕ) (ts : Items) → AllLackMergeKeys ts → first_item_fault any_node n ts ≡ None
  no_item_fault n no_items h = refl
  no_item_fault n (item t ts) h = ap (λ o. option_or (below (index n) o) (first_item_fault any_node (n + 1) ts)) (no_fault t h.0) ∙ no_item_fault (n + 1) ts h.1

  no_pair_fault : (n : ℕ) (ps : Pairs) → Lacks merge_key (pair_list_of ps) → ValuesLackMergeKeys ps → first_pair_fault n ps ≡ None
  no_pair_fault n no_pairs h g = refl
  no_pair_fault n (pair k v ps) h g = grind (arith, no_fault v g.0, no_pair_fault (n + 1) ps h.1 g.1, tree_eq-other)
