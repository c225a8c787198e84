-- The order of trees, and when two are equal: first the variants, as `Tree` names them; within a variant the contents; texts
-- character by character; arrays and hashes item by item, a shorter one before a longer one that begins with it.
-- Code by code is byte by byte too, since UTF-8 keeps the order of the codes.
-- YAML 1.2, section 3.2.1.3 (equality of nodes); here a hash's pairs are compared in their order.
use Rattle.std.specs.Prelude.{ℕ, Bool, List}
use Rattle.std.specs.declared.cmp.Ordering.{Ordering}
use Rattle.std.specs.declared.cmp.Ordering.TheVariants.{Less, Equal, Greater}
use Rattle.std.specs.Ordering.{ordering_then, nat_cmp, int_cmp, bool_cmp, is_eq}
use Rattle.std.specs.Cmp.Lexicographic.{slice_cmp}
use Rattle.defs_tree.specs.Tree.{Tree, real, integer, string, boolean, array, hash, alias, null, bad_value, Items, no_items, item, Pairs, no_pairs, pair}

-- the place of the variant among the nine
abbrev pub rank : Tree → ℕ
rank (real s) = 0
rank (integer z) = 1
rank (string s) = 2
rank (boolean b) = 3
rank (array ts) = 4
rank (hash ps) = 5
rank (alias n) = 6
rank null = 7
rank bad_value = 8

-- texts, as a dictionary has them
abbrev pub text_cmp : List ℕ → List ℕ → Ordering
text_cmp s t = slice_cmp nat_cmp s t

abbrev mutual
  -- the order of trees
  pub tree_cmp : Tree → Tree → Ordering
  tree_cmp (real s) (real t) = text_cmp s t
  tree_cmp (integer x) (integer y) = int_cmp x y
  tree_cmp (string s) (string t) = text_cmp s t
  tree_cmp (boolean b) (boolean c) = bool_cmp b c
  tree_cmp (array ts) (array us) = items_cmp ts us
  tree_cmp (hash ps) (hash qs) = pairs_cmp ps qs
  tree_cmp (alias m) (alias n) = nat_cmp m n
  tree_cmp t u = nat_cmp (rank t) (rank u)

  -- of the items of two arrays
  pub items_cmp : Items → Items → Ordering
  items_cmp no_items no_items = Equal
  items_cmp no_items (item u us) = Less
  items_cmp (item t ts) no_items = Greater
  items_cmp (item t ts) (item u us) = ordering_then (tree_cmp t u) (items_cmp ts us)

  -- of the pairs of two hashes: a key, then its value
  pub pairs_cmp : Pairs → Pairs → Ordering
  pairs_cmp no_pairs no_pairs = Equal
  pairs_cmp no_pairs (pair l w qs) = Less
  pairs_cmp (pair k v ps) no_pairs = Greater
  pairs_cmp (pair k v ps) (pair l w qs) = ordering_then (tree_cmp k l) (ordering_then (tree_cmp v w) (pairs_cmp ps qs))

-- whether two trees are equal
abbrev pub tree_eq : Tree → Tree → Bool
tree_eq t u = is_eq (tree_cmp t u)
