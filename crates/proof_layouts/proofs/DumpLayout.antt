-- The layout in which `dump` writes a tree: without gaps, with one space after each mark, and with all that stands below a mark
-- two columns to the right of it. Each part of it is a basic one, is valid whatever anchors stand before it, stands for its part of
-- the tree, and is written as that part's box.
-- YAML 1.2, chapter 8 (block styles) and section 9.1 (documents).
use Rattle.proof_layouts.proofs.Common.{[], and_parts, Anchor, anchors_after, anchors_after_field, append-nil, append_assoc, AreBasicEntries, AreBasicFields, AreEntries, AreFields, arith, ap, below, Block, block_tree, Bool, codes, Entries, false, Field, Fields, if◌then◌else◌, Inline, inline_tree, IsBasicBlock, IsBasicField, IsBasicInline, IsBasicScalar, IsBasicValue, IsBlock, IsExplicitKey, IsField, IsInline, IsPlain, is_literal_text, is_quoted, is_root_literal, is_scalar, IsScalar, IsValue, item, Items, items, joined, last_document, Layout, length, lines_of, List, MayFollowMark, MayFollowScalarKey, no_comment, no_items, no_pairs, not, pair, pair_list, pair_list_of, pair_of, Pairs, pairs_of, refl, Root, Scalar, scalar_tree, spell_block, spell_entries, spell_field, spell_fields, spell_inline, spell_literal, spell_scalar, spell_value, spelling, Tree, true, Value, value_tree, ℕ, ◌&&◌, ◌++◌, ◌+◌, ◌∷◌, ◌≡◌, ◌≤◌}
use Rattle.defs_tree.specs.Box.{hung, is_block, placed, literal_box, pair_box, box, item_boxes, pair_boxes}
use Rattle.defs_tree.specs.Valid.{IsDistinct, AllDistinct, AllPairsDistinct, FitsI64, AllFitI64, AllPairsFitI64}
use Rattle.defs_tree.specs.Writable.{IsShortKey, HasText, AllHaveText, AllPairsHaveText}
use Rattle.defs_layout.specs.Basic.{IsBasicLayout}
use Rattle.proof_layouts.proofs.Boxes.{IsBox, one_more, some_lines, hung_spelt, hung_lower_spelt, LinesAt, lines_at, joined_spelt}

-- ---- scalars

-- A scalar on one line.
record OnLine (t : Tree) : Type 0 where
  scalar : Scalar
  basic : IsBasicScalar scalar
  valid : IsScalar scalar
  tree : scalar_tree scalar ≡ t
  spelt : (r : List ℕ) → spell_scalar scalar r ≡ spelling t ++ r

plain : (t : Tree) → IsPlain t → OnLine t
plain t is = record { scalar = Scalar.plain t; basic = tt; valid = is; tree = refl; spelt = λ r. refl }

-- It is plain, unless it is a string that needs double quotes.
on_line : (t : Tree) → is_scalar t ≡ true → FitsI64 t → HasText t → OnLine t
on_line (Tree.string s) k f h = by (is_quoted s) refl
  where
    by : (b : Bool) → is_quoted s ≡ b → OnLine (Tree.string s)
    by true e = record { scalar = Scalar.quoted s; basic = tt; valid = tt; tree = refl; spelt = λ r. rw e refl }
    by false e = plain (Tree.string s) e
on_line (Tree.integer z) k f h = plain (Tree.integer z) f
on_line (Tree.array ts) k f h = cc
on_line (Tree.hash ps) k f h = cc
on_line t k f h = plain t h

-- ---- nodes

-- A text may be a literal block as root, or elsewhere.
abbrev may_be_literal : (at_root : Bool) → (text : List ℕ) → Bool
may_be_literal at_root text = if at_root then is_root_literal text else is_literal_text text

-- A tree as a node whose entries or lines stand at the column c, before it is placed after a mark or as root: what stands on one
-- line, a literal block, or a block. Its text is the box ls.
pub data Node (at_root : Bool) (c : ℕ) : Tree → List (List ℕ) → Type 0 where
  inline : {t : Tree} {ls : List (List ℕ)} (i : Inline) → IsBasicInline i → IsInline i → inline_tree i ≡ t → is_block t ≡ false
      → (is_scalar t ≡ false → IsExplicitKey (Value.beside 0 i no_comment)) → IsBox c (spell_inline i) ls → Node at_root c t ls
  literal : (text : List ℕ) → may_be_literal at_root text ≡ true → Node at_root c (Tree.string text) (literal_box text)
  block : {t : Tree} {ls : List (List ℕ)} (b : Block) → IsBasicBlock b → ((a : List Anchor) → IsBlock c a b) → block_tree b ≡ t
      → is_block t ≡ true → IsBox c (spell_block c b) ls → Node at_root c t ls

scalar_node : {at_root : Bool} {c : ℕ} {t : Tree} → is_scalar t ≡ true → is_block t ≡ false → OnLine t → Node at_root c t (spelling t ∷ [])
scalar_node k flat x =
    Node.inline (Inline.scalar x.scalar) x.basic x.valid x.tree flat (λ e. cc) (record { spelt = λ r. rw (x.spelt r) refl })

literal_spelt : (c : ℕ) (text : List ℕ) (x : LinesAt c (lines_of text)) → IsBox c (spell_literal c text x.lines) (literal_box text)
literal_spelt c text x = record { spelt = λ r. rw (x.spelt r) refl }

-- ---- values

-- A node after a mark at the column c; a block goes below where the flag says so.
record Placed (lower : Bool) (c : ℕ) (mark : List ℕ) (t : Tree) (ls : List (List ℕ)) : Type 0 where
  value : Value
  basic : IsBasicValue value
  valid : (a : List Anchor) → IsValue c a value
  tree : value_tree value ≡ t
  -- after a mark, after a scalar key, and as a key
  stands : MayFollowMark value × (lower ≡ true → MayFollowScalarKey value) × (is_scalar t ≡ false → IsExplicitKey value)
  box : IsBox c (λ r. mark ++ spell_value c value r) (placed lower mark t ls)

on_mark_line : (lower : Bool) (mark : List ℕ) (t : Tree) (ls : List (List ℕ)) → is_block t ≡ false → hung mark ls ≡ placed lower mark t ls
on_mark_line lower mark t ls flat = grind arith

place : {c : ℕ} {t : Tree} {ls : List (List ℕ)} (lower : Bool) (mark : List ℕ) → Node false (c + 2) t ls → Placed lower c mark t ls
place {c = c} {t = t} {ls = ls} lower mark (Node.inline i basic valid tree flat as_key box) = record {
  value = Value.beside 0 i no_comment;
  basic = (basic, tt);
  valid = λ a. (valid, tt);
  tree = tree;
  stands = (tt, λ e. tt, as_key);
  box = rw (← on_mark_line lower mark t ls flat) (hung_spelt mark box);
}
place {c = c} lower mark (Node.literal text may) =
    let x = lines_at (c + 2) (lines_of text) in
    record {
      value = Value.literal 0 (c + 2) text x.lines;
      basic = tt;
      valid = λ a. (omega arith, may, x.are);
      tree = refl;
      stands = (tt, λ e. tt, λ e. cc);
      box = rw (← on_mark_line lower mark (Tree.string text) (literal_box text) refl) (hung_spelt mark (literal_spelt (c + 2) text x));
    }
place {c = c} {t = t} {ls = ls} false mark (Node.block b basic valid tree is box) =
    let d : c + 2 + 0 ≡ c + 2 = omega arith in
    record {
      value = Value.compact 0 b;
      basic = basic;
      valid = λ a. rw d (valid a);
      tree = tree;
      stands = (tt, λ e. cc, λ e. tt);
      box = rw d (hung_spelt mark box);
    }
place {c = c} true mark (Node.block b basic valid tree is box) = record {
  value = below no_comment [] (c + 2) b;
  basic = (tt, basic);
  valid = λ a. (tt, tt, omega arith, valid a);
  tree = tree;
  stands = (tt, λ e. tt, λ e. tt);
  box = rw is (hung_lower_spelt mark box);
}

-- ---- collections

-- The entries of an array.
record EntriesOf (compact multiline : Bool) (c : ℕ) (ts : Items) : Type 0 where
  entries : Entries
  basic : AreBasicEntries entries
  valid : (a : List Anchor) → AreEntries c a entries
  tree : items entries ≡ ts
  box : IsBox c (spell_entries c entries) (item_boxes compact multiline ts)

-- An entry of a hash.
record FieldOf (compact : Bool) (c : ℕ) (k v : Tree) (ls ms : List (List ℕ)) : Type 0 where
  field : Field
  basic : IsBasicField field
  valid : (a : List Anchor) → IsField c a field
  tree : pair_of field ≡ (k, v)
  box : IsBox c (spell_field c field) (pair_box compact k ls v ms)

-- The entries of a hash.
record FieldsOf (compact multiline : Bool) (c : ℕ) (ps : Pairs) : Type 0 where
  fields : Fields
  basic : AreBasicFields fields
  valid : (a : List Anchor) → AreFields c a fields
  tree : pair_list fields ≡ pair_list_of ps
  box : IsBox c (spell_fields c fields) (pair_boxes compact multiline ps)

-- A scalar key stands before a colon, and a block under it always goes below; an array or hash as key stands after a question mark.
field_of : {compact : Bool} {c : ℕ} {k v : Tree} {ls ms : List (List ℕ)} → FitsI64 k → IsShortKey k → HasText k
    → Node false (c + 2) k ls → Node false (c + 2) v ms → FieldOf compact c k v ls ms
field_of {compact = compact} {c = c} {k = k} {v = v} {ls = ls} {ms = ms} f short h key value = by (is_scalar k) refl
  where
    by : (b : Bool) → is_scalar k ≡ b → FieldOf compact c k v ls ms
    by true e =
        let x = on_line k e f h in
        let y = place true (spelling k ++ codes ":") value in
        record {
          field = Field.implicit x.scalar y.value;
          basic = (x.basic, y.basic);
          valid = λ a. ((x.valid, rw (x.spelt [], append-nil) (grind arith)), y.stands.1 refl, y.valid a);
          tree = rw (x.tree, y.tree) refl;
          box = rw e (record {
            spelt = λ r. rw (x.spelt (58 ∷ spell_value c y.value r), ← append_assoc (spelling k) (codes ":")) (y.box.spelt r);
          });
        }
    by false e =
        let x = place (not compact) (codes "?") key in
        let y = place (not compact) (codes ":") value in
        record {
          field = Field.explicit x.value [] y.value;
          basic = (x.basic, y.basic);
          valid = λ a. (x.stands.2 e, x.valid a, tt, y.stands.0, y.valid (anchors_after x.value a));
          tree = rw (x.tree, y.tree) refl;
          box = rw e (one_more x.box y.box);
        }

pairs_again : (ps : Pairs) → pairs_of (pair_list_of ps) ≡ ps
pairs_again no_pairs = refl
pairs_again (pair k v ps) = ap (pair k v) (pairs_again ps)

mutual
  -- A tree's node.
  pub node_of : (compact multiline at_root : Bool) (c : ℕ) (t : Tree) → IsDistinct t → FitsI64 t → HasText t
      → Node at_root c t (box compact multiline at_root t)
  node_of compact multiline at_root c (Tree.string s) d f h = by (multiline && may_be_literal at_root s) refl
    where
      by : (b : Bool) → (multiline && may_be_literal at_root s) ≡ b
          → Node at_root c (Tree.string s) (box compact multiline at_root (Tree.string s))
      by true e = rw e (Node.literal s ((and_parts multiline (may_be_literal at_root s) e).1))
      by false e = rw e (scalar_node refl refl (on_line (Tree.string s) refl f h))
  node_of compact multiline at_root c (Tree.array no_items) d f h =
      Node.inline Inline.empty_array tt tt refl refl (λ e. tt) (record { spelt = λ r. refl })
  node_of compact multiline at_root c (Tree.array (item t ts)) d f h =
      let first = node_of compact multiline false (c + 2) t d.0 f.0 h.0 in
      let x = entries_of compact multiline c t ts first d.1 f.1 h.1 in
      Node.block (Block.array x.entries) x.basic x.valid (ap Tree.array x.tree) refl (some_lines (codes "[]") x.box)
  node_of compact multiline at_root c (Tree.hash no_pairs) d f h =
      Node.inline Inline.empty_hash tt tt refl refl (λ e. tt) (record { spelt = λ r. refl })
  node_of compact multiline at_root c (Tree.hash (pair k v ps)) d f h =
      let key = node_of compact multiline false (c + 2) k d.1.0 f.0 h.1 in
      let value = node_of compact multiline false (c + 2) v d.1.1 f.1 h.2 in
      let x = fields_of compact multiline c k v ps (field_of f.0 h.0 h.1 key value) d.1.2 f.2 h.3 in
      Node.block (Block.hash x.fields) x.basic (λ a. (x.valid a, rw x.tree d.0)) (rw (x.tree, pairs_again (pair k v ps)) refl) refl
      (some_lines (codes "{}") x.box)
  node_of compact multiline at_root c t d f h = scalar_node refl refl (on_line t refl f h)

  -- The entries of an array, from the first one on.
  entries_of : (compact multiline : Bool) (c : ℕ) (t : Tree) (ts : Items) → Node false (c + 2) t (box compact multiline false t)
      → AllDistinct ts → AllFitI64 ts → AllHaveText ts → EntriesOf compact multiline c (item t ts)
  entries_of compact multiline c t no_items n d f h =
      let x = place (not compact) (codes "-") n in
      record {
        entries = Entries.last_entry x.value;
        basic = x.basic;
        valid = λ a. (x.stands.0, x.valid a);
        tree = rw x.tree refl;
        box = rw append-nil x.box;
      }
  entries_of compact multiline c t (item u ts) n d f h =
      let x = place (not compact) (codes "-") n in
      let y = entries_of compact multiline c u ts (node_of compact multiline false (c + 2) u d.0 f.0 h.0) d.1 f.1 h.1 in
      record {
        entries = Entries.entry x.value [] y.entries;
        basic = (x.basic, y.basic);
        valid = λ a. (x.stands.0, x.valid a, tt, y.valid (anchors_after x.value a));
        tree = rw (x.tree, y.tree) refl;
        box = one_more x.box y.box;
      }

  -- The entries of a hash, from the first one on.
  fields_of : (compact multiline : Bool) (c : ℕ) (k v : Tree) (ps : Pairs)
      → FieldOf compact c k v (box compact multiline false k) (box compact multiline false v)
      → AllPairsDistinct ps → AllPairsFitI64 ps → AllPairsHaveText ps → FieldsOf compact multiline c (pair k v ps)
  fields_of compact multiline c k v no_pairs x d f h =
      record { fields = Fields.last_field x.field; basic = x.basic; valid = x.valid; tree = rw x.tree refl; box = rw append-nil x.box }
  fields_of compact multiline c k v (pair l w ps) x d f h =
      let key = node_of compact multiline false (c + 2) l d.0 f.0 h.1 in
      let value = node_of compact multiline false (c + 2) w d.1 f.1 h.2 in
      let y = fields_of compact multiline c l w ps (field_of f.0 h.0 h.1 key value) d.2 f.2 h.3 in
      record {
        fields = Fields.field x.field [] y.fields;
        basic = (x.basic, y.basic);
        valid = λ a. (x.valid a, tt, y.valid (anchors_after_field x.field a));
        tree = rw (x.tree, y.tree) refl;
        box = one_more x.box y.box;
      }

-- ---- the whole text

-- One document without a gap, and nothing after its root.
abbrev plainly : Root → Layout
plainly x = record { is_marked = true; documents = last_document (record { gap = []; root = x }) [] }

-- A tree's node at the root is a layout of the tree.
pub as_root : {t : Tree} {ls : List (List ℕ)} → Node true 0 t ls → IsBasicLayout t (joined (codes "---" ∷ ls))
as_root (Node.inline i basic valid tree flat as_key box) =
    (plainly (Root.inline i), (tt, valid, tt), (refl, basic), joined_spelt (codes "---") box, rw tree refl)
as_root (Node.literal text may) =
    let x = lines_at 0 (lines_of text) in
    (plainly (Root.literal text x.lines), (tt, (may, x.are), tt), (refl, tt), joined_spelt (codes "---") (literal_spelt 0 text x), refl)
as_root (Node.block b basic valid tree is box) =
    (plainly (Root.block 0 b), (tt, valid [], tt), (refl, basic), joined_spelt (codes "---") box, rw tree refl)
