-- How a writer stands after a node, and what is left to write of arrays and hashes that are begun.
use Rattle.yaml_emitter.proofs.Common.{[], after_mark, ap, append-nil, append_assoc, AreRestsValid, arith, before_entry, below, Bool, box, codes, entries_text, false, GoesOn, is_block, IsErr, IsLeft, IsOk, item_boxes, item_levels, items_of, joined, left_after, left_stopped, left_then, levels, List, max, not, not_both, pair_boxes, pair_levels, pair_text, pairs_of, refl, rests_text, rests_weight, Result, scalar_box, stacked, Stopped, stopped_early, stopped_for, sym, Tree, true, writes_as, WritesUnless, ℕ, ◌++◌, ◌+◌, ◌<◌, ◌∷◌, ◌≡◌, ◌≤◌}
use Rattle.std.proofs.Math.Bool.{and-false}
use Rattle.defs_tree.specs.DumpText.{dump_text}
use Rattle.yaml_emitter.proofs.EntryLemmas.{HasLines, lines, box_lines, next_item, next_pair}
use Rattle.yaml_emitter.proofs.ListLemmas.{Entries}
use Rattle.yaml_emitter.proofs.ValidLemmas.{nodes, nodes_in_pairs}
use Rattle.std.specs.declared.fmt.Error.{Error}
use Rattle.yaml_emitter.specs.declared.deep.Rest.{Rest}

-- a scalar, or the short form of an empty array or hash
pub flat_box : (t : Tree) (c m r : Bool) → is_block t ≡ false → scalar_box m r t ≡ box c m r t
flat_box a c m r b = grind arith

-- an array or a hash with parts
pub block_writes : {W E : Type 0} {gives leaves : W → List ℕ → W → Type 0} {w v : W} {r : Result (Unit {0}) E} {text : List ℕ} (c m at_root : Bool) (level : ℕ) (t s : Tree)
    → t ≡ s → (is_block s ≡ true → stacked level (box c m at_root s) ≡ text) → is_block t ≡ true
    → WritesUnless (128 < level + levels s) gives leaves w r text v
    → WritesUnless (128 < level + levels t) gives leaves w r (stacked level (box c m at_root t)) v
block_writes c m at_root level t s e has b q = rw e (writes_as (sym (has (rw e at b))) q)

-- ---- what is written of an array or hash, part by part

-- none are left
pub no_entries : (level : ℕ) (first : Bool) → entries_text first level [] ≡ []
no_entries level true = refl
no_entries level false = refl

abbrev pub item_entries : (compact multiline : Bool) → (level : ℕ) → Entries Tree
item_entries c m level = record {
  members = nodes;
  own_levels = levels;
  levels = λ ts. item_levels (items_of ts);
  highest = record { greatest = λ t ts. refl };
  before = λ first. before_entry first level;
  part = λ t. codes "-" ++ after_mark (not c) level t (box c m false t);
  text = λ first ts. entries_text first level (item_boxes c m (items_of ts));
  none_text = no_entries level;
  more_text = λ first t ts. next_item c m first level t (items_of ts);
}

abbrev pub pair_entries : (compact multiline : Bool) → (level : ℕ) → Entries (Tree × Tree)
pair_entries c m level = record {
  members = nodes_in_pairs;
  own_levels = λ p. max (levels p.0) (levels p.1);
  levels = λ ps. pair_levels (pairs_of ps);
  highest = record { greatest = λ p ps. refl };
  before = λ first. before_entry first level;
  part = λ p. pair_text c m level p.0 p.1;
  text = λ first ps. entries_text first level (pair_boxes c m (pairs_of ps));
  none_text = no_entries level;
  more_text = λ first p ps. next_pair c m first level p.0 p.1 (pairs_of ps);
}

-- what stands after a mark: a scalar
pub flat_after : (c m lower : Bool) (level : ℕ) (mark : List ℕ) (t : Tree) → is_block t ≡ false
    → (mark ++ codes " ") ++ stacked (level + 1) (scalar_box m false t) ≡ mark ++ after_mark lower level t (box c m false t)
flat_after c m lower level mark t e = rw (e, and-false, flat_box t c m false e) (append_assoc mark (codes " ") _)

-- a block is written alike at the root
pub root_block : (c m r : Bool) (t : Tree) → is_block t ≡ true → box c m false t ≡ box c m r t
root_block c m r a e = grind arith

-- the document's text, from its root's box
pub document_text : (c m : Bool) (t : Tree) → codes "---\n" ++ stacked 0 (box c m true t) ≡ dump_text c m t
document_text c m t = by (box_lines c m true t)
  where
    all : (ls : List (List ℕ)) (l : List ℕ) → l ++ below 0 ls ≡ joined (l ∷ ls)
    all [] l = append-nil l
    all (k ∷ ls) l = ap (λ t. l ++ 10 ∷ t) (all ls k)

    by : {ls : List (List ℕ)} → HasLines ls → codes "---\n" ++ stacked 0 ls ≡ joined (codes "---" ∷ ls)
    by (lines l ls) = ap (λ t. codes "---\n" ++ t) (all ls l)

-- ---- what is left to write, part by part

-- ---- texts, the first part apart

pub parts_then : {c : List ℕ} (a b more : List ℕ) → a ++ b ≡ c → c ++ more ≡ a ++ (b ++ more)
parts_then a b more e = rw (← e) (append_assoc a b more)

-- ---- how a function goes on

module _ {W : Type 0} {c m : Bool} {gives leaves : W → List ℕ → W → Type 0} {w v : W} {text : List ℕ} {weight : ℕ} {fit : Type 0} {rests : List Rest} {r : Result (Unit {0}) Error} where
  -- it has written a part
  pub goes_ok : IsOk r → IsLeft gives w text v (rests_text c m rests) → rests_weight rests < weight → (AreRestsValid rests → fit)
      → GoesOn c m gives leaves w text weight fit r v rests
  goes_ok k l h f = record { left = λ _. l; lighter = λ _. h; valid = λ _. f; err = λ e. absurd (not_both r e k) }

  -- all that another function writes is written
  pub goes_written : {reason : Type 0} {u : W} {a : List ℕ} → IsLeft gives w text u (a ++ rests_text c m rests) → WritesUnless reason gives leaves u r a v
      → rests_weight rests < weight → (AreRestsValid rests → fit) → GoesOn c m gives leaves w text weight fit r v rests
  goes_written l q h f = record {
    left = λ k. left_after l (q.ok k);
    lighter = λ _. h;
    valid = λ _. f;
    err = λ e. left_stopped l (stopped_early (rests_text c m rests) (stopped_for (λ _. tt) (q.err e)));
  }

  -- it gave up
  pub goes_err : IsErr r → Stopped gives leaves (Unit {0}) w text v → GoesOn c m gives leaves w text weight fit r v rests
  goes_err e s = record {
    left = λ k. absurd (not_both r e k);
    lighter = λ k. absurd (not_both r e k);
    valid = λ k. absurd (not_both r e k);
    err = λ _. s;
  }

  -- as a call was refused
  pub goes_refused : {reason : Type 0} {u : W} {a : List ℕ} (b : List ℕ) → IsErr r → IsLeft gives w text u (a ++ b) → Stopped gives leaves reason u a v
      → GoesOn c m gives leaves w text weight fit r v rests
  goes_refused b e l s = goes_err e (left_stopped l (stopped_early b (stopped_for (λ _. tt) s)))

  -- another goes on
  pub goes_late : {u : W} {a : List ℕ} {other : ℕ} {own : Type 0} → IsLeft gives w text u a → other ≤ weight → (own → fit)
      → GoesOn c m gives leaves u a other own r v rests → GoesOn c m gives leaves w text weight fit r v rests
  goes_late l h f g = record {
    left = λ k. left_then l (g.left k);
    lighter = λ k. let n = g.lighter k in omega (arith, h, n);
    valid = λ k a. f (g.valid k a);
    err = λ e. left_stopped l (g.err e);
  }
