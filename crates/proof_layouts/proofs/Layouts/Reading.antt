-- The tokens of a layout, part by part, and what they are read as.
use Rattle.proof_layouts.proofs.Common.{arith, [], all_field_tokens, Anchor, anchors_after, anchors_after_block, anchors_after_entries, anchors_after_field, anchors_after_fields, ap, AreEntries, AreFields, Block, block_tokens, block_tree, Bool, Entries, entry_tokens, Ev, Field, field_tokens, Fields, in_block, in_pair, Inline, inline_tokens, inline_tree, IsBlock, IsExplicitKey, IsField, IsInline, IsJson, IsPlain, IsRoot, IsScalar, IsValue, Items, items, Json, json_tokens, List, list_of, MayBeAnchored, MayFollowMark, Names, nested_alias, None, Ok, Option, pair_list, pair_of, Place, refl, Root, root_tokens, root_tree, Scalar, scalar_token, scalar_tree, Side, Some, spelling, spelling_back, Style, Tok, Tree, tree_of, Value, value_tokens, value_tree, ℕ, ◌∷◌}
use Rattle.defs_tree.specs.Laws.{IsSpeltPlain}
use Rattle.defs_event.specs.Grammar as at
use Rattle.proof_layouts.specs.JsonNest as json_nest
use Rattle.proof_layouts.proofs.Json.Derived as json
use Rattle.proof_layouts.proofs.Json.Reading as json_reading
use Rattle.proof_layouts.proofs.Says.{Works, goal_and, Says, Goes, taken, said, behind, node_and, outside, alias, flow_sequence, flow_mapping, block_sequence, block_mapping, indentless_sequence, entries_end}
use Rattle.proof_layouts.proofs.Numbered.{Known, begin, begun_by, ended_by, found}
use Rattle.proof_layouts.proofs.Layouts.Nodes.{ReadsNode, ReadsItems, ReadsPairs, scalar_reads, sequence_reads, mapping_reads, no_items, item_reads, no_pairs, pair_reads}

-- ---- what stands on one line

written_reads : {keep_tags : Bool} {opens : List ℕ} {a : List Anchor} (x : Known opens a) (o : Option (List ℕ)) (p : Place) (v : Scalar)
    → IsScalar v → ReadsNode keep_tags x (ended_by o (scalar_tree v) (begun_by o a)) o p (λ r. scalar_token v ∷ r) (scalar_tree v)
written_reads x o p (Scalar.plain t) is = scalar_reads x o p Style.plain (spelling t) t (spelling_back t (grind arith))
written_reads x o p (Scalar.quoted text) is = scalar_reads x o p Style.double_quoted text (Tree.string text) refl
written_reads x o p (Scalar.single_quoted text) is = scalar_reads x o p Style.single_quoted text (Tree.string text) refl

inline_reads : {keep_tags : Bool} {opens : List ℕ} {a : List Anchor} (x : Known opens a) (o : Option (List ℕ)) (p : Place) (i : Inline)
    → IsInline i → ReadsNode keep_tags x (ended_by o (inline_tree i) (begun_by o a)) o p (inline_tokens i) (inline_tree i)
inline_reads x o p (Inline.scalar v) is = written_reads x o p v is
inline_reads x o p Inline.empty_array is =
    sequence_reads {items = Items.no_items} (λ w r es d. flow_sequence o p d) (no_items (λ w r es d. taken _ refl (said _ refl d)))
inline_reads x o p Inline.empty_hash is =
    mapping_reads (λ w r es d. flow_mapping o p d) tt (no_pairs (λ w r es d. taken _ refl (said _ refl d)))

json_reads : {keep_tags : Bool} {opens : List ℕ} {a : List Anchor} (x : Known opens a) (p : Place) (v : Json) → IsJson v
    → ReadsNode keep_tags x a None p (json_tokens v) (tree_of v)
json_reads x p v is = record {
  after = x;
  node = json_nest.nested_of v;
  says = λ w r es d. json.value_said p v d;
  reads = json_reading.value_reads v is x.read;
}

-- ---- anchors and aliases

alias_reads : {keep_tags : Bool} {opens : List ℕ} {a : List Anchor} (x : Known opens a) (p : Place) (more : ℕ) (name : List ℕ) (t : Tree)
    (c : ℕ) → IsValue c a (Value.alias more name t) → ReadsNode keep_tags x a None p (λ r. Tok.alias name ∷ r) t
alias_reads x p more name t c is =
    let f = found name t x.agrees is.1 in
    record { after = x; node = nested_alias f.0; says = λ w r es d. alias p name f.0 f.1 d; reads = ap (λ u. Ok (u, x.read)) f.2 }

anchored_reads : {keep_tags : Bool} {opens : List ℕ} {a b : List Anchor} {x : Known opens a} {p : Place} {name : List ℕ}
    {tokens : List Tok → List Tok} {t : Tree}
    → ReadsNode keep_tags x b (Some name) p tokens t → ReadsNode keep_tags x b None p (λ r. Tok.anchor name ∷ tokens r) t
anchored_reads y = record { after = y.after; node = y.node; says = λ w r es d. taken _ refl (y.says w r es d); reads = y.reads }

-- ---- which values may stand where

-- only some may have an anchor
abbrev IsAnchorable : Option (List ℕ) → Value → Type 0
IsAnchorable None v = Unit {0}
IsAnchorable (Some name) v = MayBeAnchored v

-- an array at its key's column is the key's value
abbrev MayStand : Option Side → Value → Type 0
MayStand (Some at.value) v = Unit {0}
MayStand _ v = MayFollowMark v

-- ---- the entries of an array at p

-- what is read before each entry, and how the last one ends
record Entered (keep_tags : Bool) (p : Place) (work : Works → Works) (last : List Tok → List Tok) : Type 0 where
  dash : (s : Names) → Goes keep_tags s s work (λ w. node_and None in_block (work w)) (λ r. Tok.block_entry ∷ r) (λ r. r) (λ es. es)
  ends : (s : Names) → Goes keep_tags s s work (behind p) last (λ r. r) (λ es. Ev.sequence_end ∷ es)

indented : {keep_tags : Bool} {p : Place} → Entered keep_tags p (λ w. goal_and at.block_sequence_entries (behind p w)) (λ r. Tok.block_end ∷ r)
indented = record { dash = λ s w r es d. taken _ refl d; ends = λ s w r es d. taken _ refl (said _ refl d) }

not_indented : {keep_tags : Bool} → Entered keep_tags (in_pair at.value) (λ w. goal_and (at.indentless_sequence_entries at.value) w) (λ r. r)
not_indented = record { dash = λ s w r es d. taken _ refl d; ends = λ s w r es d. entries_end d }

indentless : {keep_tags : Bool} {s : Names} {w : Works} {es : List Ev} (vs : Entries) (r : List Tok)
    → Says keep_tags s (goal_and (at.indentless_sequence_entries at.value) w) (entry_tokens vs r) es
    → Says keep_tags s (node_and None (in_pair at.value) w) (entry_tokens vs r) (Ev.sequence_start 0 None ∷ es)
indentless (Entries.last_entry v) r d = indentless_sequence at.value d
indentless (Entries.entry v g vs) r d = indentless_sequence at.value d

-- ---- all

mutual
  block_reads : {keep_tags : Bool} {opens : List ℕ} {a : List Anchor} (x : Known opens a) (o : Option (List ℕ)) (q : Option Side) (c : ℕ)
      (b : Block) → IsBlock c (begun_by o a) b
      → ReadsNode keep_tags x (ended_by o (block_tree b) (anchors_after_block b (begun_by o a))) o (outside q) (block_tokens b)
      (block_tree b)
  block_reads x o q c (Block.array vs) is = sequence_reads (λ w r es d. block_sequence o q d) (entries_read indented (begin o x) c vs is)
  block_reads x o q c (Block.hash fs) is = mapping_reads (λ w r es d. block_mapping o q d) is.1 (fields_read (begin o x) c fs is.0)

  value_reads : {keep_tags : Bool} {opens : List ℕ} {a : List Anchor} (x : Known opens a) (o : Option (List ℕ)) (q : Option Side) (c : ℕ)
      (v : Value) → IsValue c (begun_by o a) v → IsAnchorable o v → MayStand q v
      → ReadsNode keep_tags x (ended_by o (value_tree v) (anchors_after v (begun_by o a))) o (outside q) (value_tokens v) (value_tree v)
  value_reads x o q c (Value.beside more i after) is may stands = inline_reads x o (outside q) i is.0
  value_reads x o q c (Value.literal more column text ls) is may stands =
      scalar_reads x o (outside q) Style.literal text (Tree.string text) refl
  value_reads x o q c (Value.folded more column strips text ls) is may stands =
      scalar_reads x o (outside q) Style.folded text (Tree.string text) refl
  value_reads x o q c (Value.compact more b) is may stands = block_reads x o q _ b is
  value_reads x o q c (Value.below after g column b) is may stands = block_reads x o q column b is.3
  value_reads x None q c (Value.json more v) is may stands = json_reads x (outside q) v is.1
  value_reads x None (Some at.value) c (Value.at_key after g vs) is may stands =
      sequence_reads (λ w r es d. indentless vs r d) (entries_read not_indented (begin None x) c vs is.2)
  value_reads x None _ c (Value.at_key after g vs) is may stands = absurd stands
  value_reads x None q c (Value.anchored more name v) is may stands =
      anchored_reads (value_reads x (Some name) q c v is.2 is.1 (grind arith))
  value_reads x None q c (Value.alias more name t) is may stands = alias_reads x (outside q) more name t c is
  value_reads x (Some n) q c _ is may stands = absurd may

  entries_read : {keep_tags : Bool} {opens : List ℕ} {a : List Anchor} {p : Place} {work : Works → Works} {last : List Tok → List Tok}
      → Entered keep_tags p work last → (x : Known opens a) (c : ℕ) (vs : Entries) → AreEntries c a vs
      → ReadsItems keep_tags x (anchors_after_entries vs a) p work (λ r. entry_tokens vs (last r)) (list_of (items vs))
  entries_read k x c (Entries.last_entry v) are = item_reads (k.dash _) (value_reads x None None c v are.1 tt are.0) (no_items (k.ends _))
  entries_read k x c (Entries.entry v g vs) are =
      let y = value_reads x None None c v are.1 tt are.0 in item_reads (k.dash _) y (entries_read k y.after c vs are.3)

  -- an entry of a hash, before others
  field_reads : {keep_tags : Bool} {opens : List ℕ} {a d : List Anchor} {others : List Tok → List Tok} {qs : List (Tree × Tree)}
      (x : Known opens a) (c : ℕ) (f : Field) → IsField c a f
      → ((y : Known opens (anchors_after_field f a)) → ReadsPairs keep_tags y d at.block_mapping_entries others qs)
      → ReadsPairs keep_tags x d at.block_mapping_entries (λ r. field_tokens f (others r)) (pair_of f ∷ qs)
  field_reads x c (Field.implicit k v) is others =
      let y = written_reads x None (in_pair at.key) k is.0.0 in
      let z = value_reads y.after None (Some at.value) c v is.2 tt tt in
      pair_reads y z (others z.after)
  field_reads x c (Field.explicit k g v) is others =
      let y = value_reads x None (Some at.key) c k is.1 tt (grind arith) in
      let z = value_reads y.after None (Some at.value) c v is.4 tt tt in
      pair_reads y z (others z.after)

  fields_read : {keep_tags : Bool} {opens : List ℕ} {a : List Anchor} (x : Known opens a) (c : ℕ) (fs : Fields) → AreFields c a fs
      → ReadsPairs keep_tags x (anchors_after_fields fs a) at.block_mapping_entries (λ r. all_field_tokens fs (Tok.block_end ∷ r))
      (pair_list fs)
  fields_read x c (Fields.last_field f) are = field_reads x c f are (λ y. no_pairs (λ w r es d. taken _ refl (said _ refl d)))
  fields_read x c (Fields.field f g fs) are = field_reads x c f are.0 (λ y. fields_read y c fs are.2)

-- ---- a document's root

-- the anchors after it
abbrev pub root_anchors : Root → List Anchor
root_anchors (Root.block column b) = anchors_after_block b []
root_anchors (Root.inline i) = []
root_anchors (Root.literal text ls) = []

pub root_reads : {keep_tags : Bool} (k : Known [] []) (x : Root) → IsRoot x
    → ReadsNode keep_tags k (root_anchors x) None in_block (root_tokens x) (root_tree x)
root_reads k (Root.block column b) is = block_reads k None None column b is
root_reads k (Root.inline i) is = inline_reads k None in_block i is
root_reads k (Root.literal text ls) is = scalar_reads k None in_block Style.literal text (Tree.string text) refl
