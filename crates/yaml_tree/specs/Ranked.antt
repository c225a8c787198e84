-- A hash's pairs beside the places of their keys in ascending order: by a number of each key, and by the order of trees among
-- those with the same number.
use Rattle.std.specs.Prelude.{◌≡◌, ℕ, zero, suc, ◌<◌, ◌≤◌, List, [], ◌∷◌, length, get_or}
use Rattle.std.specs.declared.cmp.Ordering.{Ordering}
use Rattle.std.specs.declared.cmp.Ordering.TheVariants.{Less, Greater}
use Rattle.std.specs.Ordering.{nat_cmp, on, then_cmp}
use Rattle.defs_tree.specs.Tree.{Tree, null}
use Rattle.defs_tree.specs.Order.{tree_cmp}
use Rattle.defs_tree.specs.Pairs.{AreDistinct}
use Rattle.yaml_tree.specs.Flat.{flat, paired}

-- the key at a place; null where there is none
abbrev pub key_at : List (Tree × Tree) → ℕ → Tree
key_at [] i = null
key_at (p ∷ ps) zero = p.0
key_at (p ∷ ps) (suc i) = key_at ps i

-- the key of a rank
abbrev pub key_of_rank : List ℕ → List (Tree × Tree) → ℕ → Tree
key_of_rank rs ps r = key_at ps (get_or rs r 0)

-- the order of two keys: by their numbers first
abbrev pub key_cmp : (Tree → ℕ) → Tree → Tree → Ordering
key_cmp m = then_cmp (on m nat_cmp) tree_cmp

-- the places of all pairs, so that their keys ascend
pub record AreRanked (m : Tree → ℕ) (rs : List ℕ) (ps : List (Tree × Tree)) : Type 0 where
  pub counted : length rs ≡ length ps
  pub within : (r : ℕ) → r < length rs → get_or rs r 0 < length ps
  pub ascending : (r s : ℕ) → r < s → s < length rs → key_cmp m (key_of_rank rs ps r) (key_of_rank rs ps s) ≡ Less

-- a row of keys and values, of distinct keys, whose ranks are these
pub record IsHash (m : Tree → ℕ) (ts : List Tree) (rs : List ℕ) : Type 0 where
  pub even : ts ≡ flat (paired ts)
  pub distinct : AreDistinct (paired ts)
  pub ranked : AreRanked m rs (paired ts)

-- the key has this rank
abbrev pub IsRank : Tree → List ℕ → List (Tree × Tree) → ℕ → Type 0
IsRank k rs ps r = (r < length rs) × (key_of_rank rs ps r ≡ k)

-- the key has no rank, and would have this one
pub record IsRankGap (m : Tree → ℕ) (k : Tree) (rs : List ℕ) (ps : List (Tree × Tree)) (r : ℕ) : Type 0 where
  pub within : r ≤ length rs
  pub above : (s : ℕ) → s < r → key_cmp m k (key_of_rank rs ps s) ≡ Greater
  pub below : (s : ℕ) → r ≤ s → s < length rs → key_cmp m k (key_of_rank rs ps s) ≡ Less
