-- Valid trees, part by part.
use Rattle.yaml_emitter.proofs.Common.{ArePairsValid, AreValid, arith, array, depth, false, hash, hash_tree, is_block, is_scalar, IsValid, items_depth, items_of, List, max, no_items, no_pairs, OnErr, OnOk, pair_list_of, pair_list_of_pairs, pairs_depth, pairs_of, refl, Result, subst, sym, Tree, true, ◌≡◌}
use Rattle.defs_tree.specs.Pairs.{AreDistinct}
use Rattle.yaml_emitter.proofs.ListLemmas.{Members}

-- ---- answers

pub in_any : {E P : Type 0} (r : Result (Unit {0}) E) → P → OnOk r P
in_any a p = grind arith

pub on_err : {E P : Type 0} (r : Result (Unit {0}) E) → P → OnErr r P
on_err a p = grind arith

-- ---- nodes

-- an array or hash with no part, or a scalar
pub flat_valid : (t : Tree) → is_block t ≡ false → (is_scalar t ≡ true → IsValid t) → IsValid t
flat_valid (array no_items) b h = (tt, tt)
flat_valid (hash no_pairs) b h = ((tt, tt), tt)
flat_valid t b h = search (b, h)

-- ---- arrays and hashes, part by part

abbrev pub nodes : Members Tree
nodes = record {
  own_depth = depth;
  depth = λ ts. items_depth (items_of ts);
  deepest = record { greatest = λ t ts. refl };
  IsFit = IsValid;
  AreFit = λ ts. AreValid (items_of ts);
  none_fit = (tt, tt);
  more_fit = λ t ts f fs. ((f.0, fs.0), (f.1, fs.1));
}

abbrev pub nodes_in_pairs : Members (Tree × Tree)
nodes_in_pairs = record {
  own_depth = λ p. max (depth p.0) (depth p.1);
  depth = λ ps. pairs_depth (pairs_of ps);
  deepest = record { greatest = λ p ps. refl };
  IsFit = λ p. IsValid p.0 × IsValid p.1;
  AreFit = λ ps. ArePairsValid (pairs_of ps);
  none_fit = (tt, tt);
  more_fit = λ p ps f fs. ((f.0.0, f.1.0, fs.0), (f.0.1, f.1.1, fs.1));
}

pub distinct_pairs : (ps : List (Tree × Tree)) → AreDistinct ps → AreDistinct (pair_list_of (pairs_of ps))
distinct_pairs ps d = subst AreDistinct (sym (pair_list_of_pairs ps)) d

pub valid_hash : (ps : List (Tree × Tree)) → AreDistinct ps → ArePairsValid (pairs_of ps) → IsValid (hash_tree ps)
valid_hash ps d v = ((distinct_pairs ps d, v.0), v.1)
