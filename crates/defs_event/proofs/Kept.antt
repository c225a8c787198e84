-- What scalars have, and arrays and hashes of trees that have it, every loaded tree has.
use Rattle.std.proofs.lemmas.List.Elements.{All-nil, All-cons}
use Rattle.defs_event.proofs.Common.{[], All, AreDistinct, array, documents_of, Ev, hash, item, Items, items_of, List, new_loader, no_items, no_pairs, None, pair, Pairs, pairs_of, Position, Tree, with_events, ◌∷◌, arith}
use Rattle.defs_tree.proofs.OverlayLaws.{list_of_pairs}
use Rattle.defs_tree.specs.Valid.{IsDistinct, AllDistinct, AllPairsDistinct, FitsI64, AllFitI64, AllPairsFitI64}
use Rattle.defs_event.specs.Marks.{Marks}
use Rattle.defs_event.specs.NoAlias.{HasNoAlias, NoneHasAlias, NoPairHasAlias}
use Rattle.defs_event.proofs.InStep.{IsLeaf, Each, EachPair, IsKept, documents_kept}

-- what is said of a tree, whatever its marks
abbrev OfTree : (Tree → Type 0) → Tree → Marks → Type 0
OfTree P t m = P t

each_all : (P : Tree → Type 0) (ts : List Tree) (ms : List Marks) → Each (OfTree P) ts ms → All P ts
each_all P [] [] h = All-nil P
each_all P (t ∷ ts) (m ∷ ms) h = All-cons P t ts h.0 (each_all P ts ms h.1)
each_all P ts ms h = absurd h

pub loaded_kept : (P : Tree → Type 0) → IsKept (OfTree P) → (es : List (Ev × Position)) → All P (documents_of (with_events new_loader es))
loaded_kept P is es = let h = documents_kept (OfTree P) is es in each_all P (documents_of (with_events new_loader es)) h.0 h.1

-- ---- what is kept

-- What leaves have, and collections of parts that have it, is kept. Q is said of items, and S of pairs.
module _ (P : Tree → Type 0) (Q : Items → Type 0) (S : Pairs → Type 0) where
  each_item : Q no_items → ((t : Tree) (ts : Items) → P t → Q ts → Q (item t ts))
      → (ts : List Tree) (ms : List Marks) → Each (OfTree P) ts ms → Q (items_of ts)
  each_item none more [] [] h = none
  each_item none more (t ∷ ts) (m ∷ ms) h = more t (items_of ts) h.0 (each_item none more ts ms h.1)
  each_item none more ts ms h = absurd h

  each_pair : S no_pairs → ((k v : Tree) (ps : Pairs) → P k → P v → S ps → S (pair k v ps))
      → (ps : List (Tree × Tree)) (ms : List Marks) → EachPair (OfTree P) ps None ms → S (pairs_of ps)
  each_pair none more [] [] h = none
  each_pair none more (p ∷ ps) (m ∷ n ∷ ms) h = more p.0 p.1 (pairs_of ps) h.0 h.1 (each_pair none more ps ms h.2)
  each_pair none more ps ms h = absurd h

  kept : ((t : Tree) → IsLeaf t → P t) → Q no_items → ((t : Tree) (ts : Items) → P t → Q ts → Q (item t ts))
      → ((ts : Items) → Q ts → P (array ts))
      → S no_pairs → ((k v : Tree) (ps : Pairs) → P k → P v → S ps → S (pair k v ps))
      → ((ps : List (Tree × Tree)) → AreDistinct ps → S (pairs_of ps) → P (hash (pairs_of ps))) → IsKept (OfTree P)
  kept is_leaf none more of_items no_pair more_pairs of_pairs = record {
    of_leaf = λ t p. is_leaf t;
    of_alias = λ t p m h. h;
    of_array = λ ts p ms h. of_items (items_of ts) (each_item none more ts ms h);
    of_hash = λ ps p ms d h. of_pairs ps d (each_pair no_pair more_pairs ps ms h);
  }

no_alias_leaf : (t : Tree) → IsLeaf t → HasNoAlias t
no_alias_leaf t h = grind arith

pub no_alias_kept : IsKept (OfTree HasNoAlias)
no_alias_kept =
    kept HasNoAlias NoneHasAlias NoPairHasAlias no_alias_leaf tt (λ t us h i. (h, i)) (λ us h. h) tt
    (λ k v qs h i j. (h, i, j)) (λ ps d h. h)

fits_leaf : (t : Tree) → IsLeaf t → FitsI64 t
fits_leaf t h = grind arith

pub fits_kept : IsKept (OfTree FitsI64)
fits_kept = kept FitsI64 AllFitI64 AllPairsFitI64 fits_leaf tt (λ t us h i. (h, i)) (λ us h. h) tt (λ k v qs h i j. (h, i, j)) (λ ps d h. h)

distinct_leaf : (t : Tree) → IsLeaf t → IsDistinct t
distinct_leaf t h = grind arith

pub distinct_kept : IsKept (OfTree IsDistinct)
distinct_kept =
    kept IsDistinct AllDistinct AllPairsDistinct distinct_leaf tt (λ t us h i. (h, i)) (λ us h. h) tt (λ k v qs h i j. (h, i, j))
    (λ ps d h. (rw (list_of_pairs ps) d, h))
