-- The trees of JSON texts and of layouts are sound.
use Rattle.defs_layout.proofs.Common.{[], Anchor, AreDistinct, AreElements, begun, element, Elements, ended, IsJson, IsJsonText, Items, items, Json, last_element, last_member, last_tree, List, member, Members, pair_list, Pairs, pairs_of, Some, Tree, tree_of, with_end, ℕ, ◌∷◌, ◌≡◌, arith}
use Rattle.defs_tree.proofs.OverlayLaws.{list_of_pairs}
use Rattle.defs_tree.specs.Valid.{AllDistinct, AllPairsDistinct, AllFitI64, AllPairsFitI64}
use Rattle.defs_layout.specs.Json.{AreMembers}
use Rattle.defs_layout.specs.Layout
use Rattle.defs_layout.specs.Sound.{IsSound, AreAllSound, AllHaveValues, AllPairsHaveValues}

-- ---- items and pairs

record AreSound (ts : Items) : Type 0 where
  distinct : AllDistinct ts
  fits : AllFitI64 ts
  has_values : AllHaveValues ts

record ArePairsSound (ps : Pairs) : Type 0 where
  distinct : AllPairsDistinct ps
  fits : AllPairsFitI64 ps
  has_values : AllPairsHaveValues ps

item_sound : (t : Tree) (ts : Items) → IsSound t → AreSound ts → AreSound (Items.item t ts)
item_sound t ts h hs = grind arith

pair_sound : (k v : Tree) (ps : Pairs) → IsSound k → IsSound v → ArePairsSound ps → ArePairsSound (Pairs.pair k v ps)
pair_sound k v ps h g hs = grind arith

array_sound : (ts : Items) → AreSound ts → IsSound (Tree.array ts)
array_sound ts hs = record { distinct = hs.distinct; fits = hs.fits; has_values = hs.has_values }

hash_sound : (ps : List (Tree × Tree)) → AreDistinct ps → ArePairsSound (pairs_of ps) → IsSound (Tree.hash (pairs_of ps))
hash_sound ps d hs = record { distinct = (rw (list_of_pairs ps) d, hs.distinct); fits = hs.fits; has_values = hs.has_values }

string_sound : (s : List ℕ) → IsSound (Tree.string s)
string_sound s = record { distinct = tt; fits = tt; has_values = tt }

-- ---- JSON

mutual
  json_sound : (v : Json) → IsJson v → IsSound (tree_of v)
  json_sound (Json.number n) h = grind arith
  json_sound (Json.array g es) h = array_sound (items es) (elements_sound es h.1)
  json_sound (Json.empty_object g) h = record { distinct = (tt, tt); fits = tt; has_values = tt }
  json_sound (Json.object g ms) h = hash_sound (pair_list ms) h.2 (members_sound ms h.1)
  json_sound v h = record { distinct = tt; fits = tt; has_values = tt }

  elements_sound : (es : Elements) → AreElements es → AreSound (items es)
  elements_sound (last_element v a) h = item_sound (tree_of v) Items.no_items (json_sound v h.0) (grind arith)
  elements_sound (element v a b es) h = item_sound (tree_of v) (items es) (json_sound v h.0) (elements_sound es h.3)

  members_sound : (ms : Members) → AreMembers ms → ArePairsSound (pairs_of (pair_list ms))
  members_sound (last_member k g q v a) h = pair_sound _ (tree_of v) Pairs.no_pairs (string_sound _) (json_sound v h.3) (grind arith)
  members_sound (member k g q v a b ms) h = grind (arith, pair_sound, string_sound, json_sound v h.3, members_sound ms h.6)

pub json_text_sound : (t : Tree) (text : List ℕ) → IsJsonText t text → IsSound t
json_text_sound t text h = rw (h.3) at (json_sound h.0.value h.1.value)

-- ---- layouts

-- the trees of the ended nodes
abbrev AreAnchorsSound : List Anchor → Type 0
AreAnchorsSound [] = Unit {0}
AreAnchorsSound (begun n ∷ a) = AreAnchorsSound a
AreAnchorsSound (ended n t ∷ a) = IsSound t × AreAnchorsSound a

with_end_sound : (t : Tree) (a : List Anchor) → IsSound t → AreAnchorsSound a → AreAnchorsSound (with_end t a)
with_end_sound t [] h hs = tt
with_end_sound t (begun n ∷ a) h hs = (h, hs)
with_end_sound t (ended n u ∷ a) h hs = (hs.0, with_end_sound t a h hs.1)

last_tree_sound : (name : List ℕ) (a : List Anchor) (t : Tree) → AreAnchorsSound a → last_tree name a ≡ Some t → IsSound t
last_tree_sound name [] t hs e = cc
last_tree_sound name (begun n ∷ a) t hs e = grind (arith, last_tree_sound name a t hs)
last_tree_sound name (ended n u ∷ a) t hs e = grind (arith, last_tree_sound name a t hs.1)

mutual
  block_sound : (c : ℕ) (a : List Anchor) (b : Layout.Block) → Layout.IsBlock c a b → AreAnchorsSound a → IsSound (Layout.block_tree b) × AreAnchorsSound (Layout.anchors_after_block b a)
  block_sound c a (Layout.array es) h hs = let k = entries_sound c a es h hs in (array_sound _ k.0, k.1)
  block_sound c a (Layout.hash fs) h hs = let k = fields_sound c a fs h.0 hs in (hash_sound (Layout.pair_list fs) h.1 k.0, k.1)

  value_sound : (c : ℕ) (a : List Anchor) (v : Layout.Value) → Layout.IsValue c a v → AreAnchorsSound a → IsSound (Layout.value_tree v) × AreAnchorsSound (Layout.anchors_after v a)
  value_sound c a (Layout.beside more i after) h hs = ((grind arith), hs)
  value_sound c a (Layout.Value.literal more column text ls) h hs = (string_sound text, hs)
  value_sound c a (Layout.folded more column strips text ls) h hs = (string_sound text, hs)
  value_sound c a (Layout.Value.json more v) h hs = (json_sound v h.1, hs)
  value_sound c a (Layout.compact more b) h hs = block_sound _ a b h hs
  value_sound c a (Layout.below after g column b) h hs = block_sound column a b h.3 hs
  value_sound c a (Layout.at_key after g es) h hs = let k = entries_sound c a es h.2 hs in (array_sound _ k.0, k.1)
  value_sound c a (Layout.anchored more name v) h hs = grind (arith, with_end_sound, value_sound c (begun name ∷ a) v h.2 hs)
  value_sound c a (Layout.Value.alias more name t) h hs = (last_tree_sound name a t hs h.1, hs)

  entries_sound : (c : ℕ) (a : List Anchor) (es : Layout.Entries) → Layout.AreEntries c a es → AreAnchorsSound a → AreSound (Layout.items es) × AreAnchorsSound (Layout.anchors_after_entries es a)
  entries_sound c a (Layout.last_entry v) h hs = let k = value_sound c a v h.1 hs in (item_sound _ Items.no_items k.0 (grind arith), k.1)
  entries_sound c a (Layout.entry v g es) h hs = grind (arith, item_sound, value_sound c a v h.1 hs, entries_sound c _ es h.3)

  field_sound : (c : ℕ) (a : List Anchor) (f : Layout.Field) → Layout.IsField c a f → AreAnchorsSound a
      → (IsSound (Layout.pair_of f).0 × IsSound (Layout.pair_of f).1) × AreAnchorsSound (Layout.anchors_after_field f a)
  field_sound c a (Layout.implicit k v) h hs = let l = value_sound c a v h.2 hs in (((grind arith), l.0), l.1)
  field_sound c a (Layout.explicit k g v) h hs =
      let m = value_sound c a k h.1 hs in let l = value_sound c _ v h.4 m.1 in ((m.0, l.0), l.1)

  fields_sound : (c : ℕ) (a : List Anchor) (fs : Layout.Fields) → Layout.AreFields c a fs → AreAnchorsSound a → ArePairsSound (pairs_of (Layout.pair_list fs)) × AreAnchorsSound (Layout.anchors_after_fields fs a)
  fields_sound c a (Layout.last_field f) h hs = grind (arith, pair_sound, field_sound c a f h hs)
  fields_sound c a (Layout.field f g fs) h hs = grind (arith, pair_sound, field_sound c a f h.0 hs, fields_sound c _ fs h.2)

root_sound : (x : Layout.Root) → Layout.IsRoot x → IsSound (Layout.root_tree x)
root_sound a h = grind (arith, block_sound, string_sound)

documents_sound : (ds : Layout.Documents) → Layout.AreDocuments ds → AreAllSound (Layout.trees_of ds)
documents_sound (Layout.last_document d after) h = (root_sound d.root h.1, tt)
documents_sound (Layout.document d g ds) h = (root_sound d.root h.1, documents_sound ds h.3)

pub laid_out_sound : (ts : List Tree) (text : List ℕ) → Layout.AreLaidOut ts text → AreAllSound ts
laid_out_sound ts text h = rw (h.3) at (documents_sound h.0.documents h.1)
