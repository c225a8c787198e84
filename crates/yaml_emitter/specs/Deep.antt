-- What is left to write of arrays and hashes that are begun, the innermost first.
use Rattle.std.specs.Prelude.{ℕ, suc, ◌+◌, ◌*◌, ◌<◌, Bool, false, not, List, [], ◌∷◌, ◌++◌, Result, IsOk, IsErr}
use Rattle.std.specs.declared.fmt.Error.{Error}
use Rattle.defs_tree.specs.Box.{box, item_boxes, pair_boxes}
use Rattle.defs_tree.specs.Tree.{Tree, items_of, pairs_of}
use Rattle.yaml_tree.specs.View.{view, items_view, pairs_view}
use Rattle.yaml_tree.specs.Weight.{nodes, items_nodes, pairs_nodes}
use Rattle.yaml_emitter.specs.At.{new_line}
use Rattle.yaml_emitter.specs.Entries.{mark_text, after_mark, entries_text}
use Rattle.yaml_emitter.specs.ValidTree.{IsValid, AreValid, ArePairsValid}
use Rattle.yaml_emitter.specs.Writing.{IsLeft, Stopped}
use Rattle.yaml_emitter.specs.declared.deep.Rest.{Rest}
use Rattle.yaml_emitter.specs.declared.deep.Rest.TheVariants.{Items, Pairs, Value}
use Rattle.yaml_emitter.specs.declared.node.Mark.{Mark}
use Rattle.yaml_emitter.specs.declared.node.Mark.TheVariants.{Colon}

-- a mark and its value
abbrev pub value_text : Bool → Bool → ℕ → Mark → Bool → Tree → List ℕ
value_text compact multiline level mark blocks_lower t = mark_text mark ++ after_mark blocks_lower level t (box compact multiline false t)

-- the text of what is left
abbrev pub rest_text : Bool → Bool → Rest → List ℕ
rest_text compact multiline (Items level is_first ys) = entries_text is_first level (item_boxes compact multiline (items_of (items_view ys.now)))
rest_text compact multiline (Pairs level is_first ys) = entries_text is_first level (pair_boxes compact multiline (pairs_of (pairs_view ys.now)))
rest_text compact multiline (Value level y) = new_line level ++ value_text compact multiline level Colon (not compact) (view y.now)

abbrev pub rests_text : Bool → Bool → List Rest → List ℕ
rests_text compact multiline [] = []
rests_text compact multiline (r ∷ rs) = rest_text compact multiline r ++ rests_text compact multiline rs

-- more than the turns in which it is written: each node takes at most two, and what is left of a row ends in one
abbrev pub rest_weight : Rest → ℕ
rest_weight (Items level is_first ys) = suc (2 * items_nodes (items_of (items_view ys.now)))
rest_weight (Pairs level is_first ys) = suc (2 * pairs_nodes (pairs_of (pairs_view ys.now)))
rest_weight (Value level y) = 2 * nodes (view y.now)

abbrev pub rests_weight : List Rest → ℕ
rests_weight [] = 0
rests_weight (r ∷ rs) = rest_weight r + rests_weight rs

-- its nodes are valid
abbrev pub IsRestValid : Rest → Type 0
IsRestValid (Items level is_first ys) = AreValid (items_of (items_view ys.now))
IsRestValid (Pairs level is_first ys) = ArePairsValid (pairs_of (pairs_view ys.now))
IsRestValid (Value level y) = IsValid (view y.now)

abbrev pub AreRestsValid : List Rest → Type 0
AreRestsValid [] = Unit {0}
AreRestsValid (r ∷ rs) = IsRestValid r × AreRestsValid rs

-- how a function goes on with a text: `Ok` where a beginning of it is written, and the rests are what is left of it, lighter than it
-- was, and valid only where it is; `Err` where a beginning of it is written
pub record GoesOn {W : Type 0} (compact multiline : Bool) (gives leaves : W → List ℕ → W → Type 0) (w : W) (text : List ℕ) (weight : ℕ) (fit : Type 0)
    (r : Result (Unit {0}) Error) (v : W) (rests : List Rest) : Type 0 where
  pub left : IsOk r → IsLeft gives w text v (rests_text compact multiline rests)
  pub lighter : IsOk r → rests_weight rests < weight
  pub valid : IsOk r → AreRestsValid rests → fit
  pub err : IsErr r → Stopped gives leaves (Unit {0}) w text v

-- the same with what is left itself
abbrev pub WritesFirst : {W : Type 0} → Bool → Bool → (W → List ℕ → W → Type 0) → (W → List ℕ → W → Type 0) → W → List Rest → Result (Unit {0}) Error → W → List Rest → Type 0
WritesFirst compact multiline gives leaves w old r v new =
    GoesOn compact multiline gives leaves w (rests_text compact multiline old) (rests_weight old) (AreRestsValid old) r v new
