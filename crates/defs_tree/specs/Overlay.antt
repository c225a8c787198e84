-- One tree laid over another.
use Rattle.std.specs.Prelude.{not, List, [], ◌∷◌, ◌++◌, filter}
use Rattle.std.specs.Option.{option_map_or}
use Rattle.defs_tree.specs.Tree.{Tree, hash, Pairs, no_pairs, pair, pairs_of, pair_list_of}
use Rattle.defs_tree.specs.Pairs.{lookup, has_key}

-- the pairs whose keys the others don't have
abbrev pub new_pairs : List (Tree × Tree) → List (Tree × Tree) → List (Tree × Tree)
new_pairs others ps = filter (λ p. not (has_key p.0 others)) ps

abbrev mutual
  -- the right tree laid over the left one. Two hashes give the left's pairs in order, where the value of a shared key is the right's value
  -- laid over the left's, and then the right's pairs of new keys in order. Else it is the right tree
  pub overlay : Tree → Tree → Tree
  overlay (hash ps) (hash qs) = hash (pairs_of (pairs_under (pair_list_of qs) ps ++ new_pairs (pair_list_of ps) (pair_list_of qs)))
  overlay t u = u

  -- the left's pairs, with the right's laid over them
  pub pairs_under : List (Tree × Tree) → Pairs → List (Tree × Tree)
  pairs_under qs no_pairs = []
  pairs_under qs (pair k v ps) = (k, option_map_or (overlay v) (lookup k qs) v) ∷ pairs_under qs ps
