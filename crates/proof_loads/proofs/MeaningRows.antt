-- What short texts mean, by the definitions alone: from characters to trees, by computing.
use Rattle.proof_loads.proofs.Common.{[], codes, hash, items_of, List, Means, Nest, nest, nest_pair, nested_mapping, nested_scalar, nested_sequence, no_nest_pairs, no_nests, None, pairs_of, refl, stream_by, Tree, Style, true, with_node, ℕ, ◌∷◌, typing, is_decimal}
use Rattle.defs_token.proofs.Rows.{one_pair, at_key_column}

abbrev leaf : List ℕ → Nest
leaf text = nested_scalar text Style.plain 0 None

-- a mapping of one pair
pair_means : Means true (codes "a: b\n") (hash (pairs_of ((Tree.string (codes "a"), Tree.string (codes "b")) ∷ [])) ∷ [])
unfolding typing is_decimal
pair_means = record {
  tokens = _;
  has = one_pair;
  read = record {
    documents = with_node (nested_mapping 0 None (nest_pair (leaf (codes "a")) (leaf (codes "b")) no_nest_pairs)) ∷ [];
    stream = stream_by refl refl;
    trees_are = refl;
  };
}

-- a sequence at the column of its key
sequence_means : Means true (codes "a:\n- b\nc: d\n")
    (hash (pairs_of ((Tree.string (codes "a"), Tree.array (items_of (Tree.string (codes "b") ∷ []))) ∷ (Tree.string (codes "c"), Tree.string (codes "d")) ∷ [])) ∷ [])
unfolding typing is_decimal
sequence_means = record {
  tokens = _;
  has = at_key_column;
  read = record {
    documents = with_node (nested_mapping 0 None (nest_pair (leaf (codes "a")) (nested_sequence 0 None (nest (leaf (codes "b")) no_nests))
        (nest_pair (leaf (codes "c")) (leaf (codes "d")) no_nest_pairs))) ∷ [];
    stream = stream_by refl refl;
    trees_are = refl;
  };
}
