-- The JSON text of a tree is JSON with that value, and nests as the tree does.
use Rattle.defs_layout.proofs.Common.{[], alias, AllHaveJson, ap, append-nil, append_assoc, are_pieces, AreElements, AreMembers, arith, bad_value, Blank, Bool, boolean, deeper, element, element_levels, Elements, false, HasJson, integer, IsJson, IsJsonGap, IsKey, item, item_nesting, Items, items, Json, json_text, JsonTextsAreJson, key_end, key_text, last_element, last_member, levels, line_feed, List, member, member_levels, member_nesting, Members, more_items, more_members, nesting, no_items, no_pairs, None, null, Option, pair, pair_list, pair_list_of, Pairs, pairs_of, Piece, real, refl, replicate, Some, space, spell, spell_elements, spell_members, spell_string, string, suc, TabsBeginLines, Tree, tree_of, true, unescaped, zero, ℕ, ◌++◌, ◌∙◌, ◌∷◌, ◌≡◌}
use Rattle.defs_tree.specs.Tree.{array, hash}
use Rattle.defs_layout.specs.JsonGap.{spell_gap}
use Rattle.defs_layout.specs.Json
use Rattle.defs_layout.specs.JsonText.{new_line}
use Rattle.defs_layout.proofs.Strings.{pieces_of, all_written, string_spelt}
use Rattle.defs_layout.proofs.Integers.{integer_number, integer_written}
use Rattle.defs_layout.proofs.Numbers.{real_written}

-- ---- white space

gap : Option ℕ → ℕ → List Blank
gap None m = []
gap (Some w) m = line_feed ∷ replicate m space

spaces_spelt : (m : ℕ) (r : List ℕ) → spell_gap (replicate m space) r ≡ replicate m 32 ++ r
spaces_spelt zero r = refl
spaces_spelt (suc m) r = ap (λ t. 32 ∷ t) (spaces_spelt m r)

spaces_fit : (b : Bool) (m : ℕ) → TabsBeginLines b (replicate m space)
spaces_fit b zero = tt
spaces_fit b (suc m) = spaces_fit b m

gap_spelt : (i : Option ℕ) (m : ℕ) (r : List ℕ) → spell_gap (gap i m) r ≡ new_line i m ++ r
unfolding gap
gap_spelt a m r = grind (arith, spaces_spelt)

gap_fits : (i : Option ℕ) (m : ℕ) → IsJsonGap (gap i m)
unfolding gap
gap_fits a m = grind (arith, spaces_fit)

-- after a colon
colon_gap : Option ℕ → List Blank
colon_gap None = []
colon_gap (Some w) = space ∷ []

colon_spelt : (i : Option ℕ) (r : List ℕ) → 58 ∷ spell_gap (colon_gap i) r ≡ key_end i ++ r
unfolding colon_gap
colon_spelt a r = grind arith

colon_fits : (i : Option ℕ) → IsJsonGap (colon_gap i)
unfolding colon_gap
colon_fits a = grind arith

-- ---- keys

record IsWrittenKey (k : Tree) : Type 0 where
  pieces : List Piece
  fit : are_pieces pieces ≡ true
  spelt : (r : List ℕ) → spell_string pieces r ≡ key_text k ++ r
  tree : string (unescaped pieces) ≡ k

key_written : (k : Tree) → IsKey k → IsWrittenKey k
key_written (string s) h = let w = all_written s h in record { pieces = pieces_of s; fit = w.fit; spelt = λ r. string_spelt s r h; tree = ap string w.value }
key_written _ h = absurd h

-- ---- trees

record IsWritten (i : Option ℕ) (m : ℕ) (t : Tree) : Type 0 where
  value : Json
  is : IsJson value
  spelt : (r : List ℕ) → spell value r ≡ json_text i m t ++ r
  tree : tree_of value ≡ t
  depth : levels value ≡ nesting t

-- items, and the line after the last
record AreWritten (i : Option ℕ) (m outer : ℕ) (t : Tree) (ts : Items) : Type 0 where
  elements : Elements
  are : AreElements elements
  spelt : (r : List ℕ) → spell_elements elements r ≡ json_text i m t ++ (more_items i m ts ++ (new_line i outer ++ r))
  trees : items elements ≡ item t ts
  depth : element_levels elements ≡ item_nesting (item t ts)

-- members, and the line after the last
record AreWrittenMembers (i : Option ℕ) (m outer : ℕ) (k v : Tree) (ps : Pairs) : Type 0 where
  members : Members
  are : Json.AreMembers members
  spelt : (r : List ℕ) → spell_members members r ≡ key_text k ++ (key_end i ++ (json_text i m v ++ (more_members i m ps ++ (new_line i outer ++ r))))
  pairs : pair_list members ≡ pair_list_of (pair k v ps)
  depth : member_levels members ≡ member_nesting (pair k v ps)

list_back : (ps : Pairs) → pairs_of (pair_list_of ps) ≡ ps
list_back no_pairs = refl
list_back (pair k v ps) = ap (pair k v) (list_back ps)

mutual
  written : (i : Option ℕ) (m : ℕ) (t : Tree) → HasJson t → IsWritten i m t
  written i m (real s) h = let w = real_written s h in record { value = Json.number w.written; is = w.fits; spelt = w.spelt; tree = w.value; depth = refl }
  written i m (integer z) h = let w = integer_written z h in record { value = Json.number (integer_number z); is = w.fits; spelt = w.spelt; tree = w.value; depth = refl }
  written i m (string s) h = let w = all_written s h in record { value = Json.string (pieces_of s); is = w.fit; spelt = λ r. string_spelt s r h; tree = ap string w.value; depth = refl }
  written i m (boolean true) h = record { value = Json.true_word; is = tt; spelt = λ r. refl; tree = refl; depth = refl }
  written i m (boolean false) h = record { value = Json.false_word; is = tt; spelt = λ r. refl; tree = refl; depth = refl }
  written i m (array no_items) h = record { value = Json.empty_array []; is = tt; spelt = λ r. refl; tree = refl; depth = refl }
  written i m (array (item t ts)) h =
      let ws = items_written i (deeper i m) m t ts (written i (deeper i m) t h.0) h.1 in
      record {
        value = Json.array (gap i (deeper i m)) ws.elements;
        is = (gap_fits i (deeper i m), ws.are);
        spelt = λ r. simp (gap_spelt, ws.spelt, append_assoc);
        tree = ap array ws.trees;
        depth = omega (arith, ws.depth);
      }
  written i m (hash no_pairs) h = record { value = Json.empty_object []; is = tt; spelt = λ r. refl; tree = refl; depth = refl }
  written i m (hash (pair k v ps)) h =
      let ws = members_written i (deeper i m) m k v ps (key_written k h.1.0) (written i (deeper i m) v h.1.1) h.1.2 in
      record {
        value = Json.object (gap i (deeper i m)) ws.members;
        is = (gap_fits i (deeper i m), ws.are, rw ws.pairs h.0);
        spelt = λ r. simp (gap_spelt, ws.spelt, append_assoc);
        tree = ap (λ qs. hash (pairs_of qs)) ws.pairs ∙ ap hash (list_back (pair k v ps));
        depth = omega (arith, ws.depth);
      }
  written i m (alias n) h = absurd h
  written i m null h = record { value = Json.null_word; is = tt; spelt = λ r. refl; tree = refl; depth = refl }
  written i m bad_value h = absurd h

  -- after the first item
  items_written : (i : Option ℕ) (m outer : ℕ) (t : Tree) (ts : Items) → IsWritten i m t → AllHaveJson ts → AreWritten i m outer t ts
  items_written i m outer t no_items w hs = record {
    elements = last_element w.value (gap i outer);
    are = (w.is, gap_fits i outer);
    spelt = λ r. simp (w.spelt, gap_spelt);
    trees = ap (λ u. item u no_items) w.tree;
    depth = omega (arith, w.depth);
  }
  items_written i m outer t (item u us) w hs =
      let ws = items_written i m outer u us (written i m u hs.0) hs.1 in
      record {
        elements = element w.value [] (gap i m) ws.elements;
        are = (w.is, tt, gap_fits i m, ws.are);
        spelt = λ r. simp (w.spelt, gap_spelt, ws.spelt, append_assoc);
        trees = (λ j. item (w.tree j) (ws.trees j));
        depth = omega (arith, w.depth, ws.depth);
      }

  -- after the first member
  members_written : (i : Option ℕ) (m outer : ℕ) (k v : Tree) (ps : Pairs) → IsWrittenKey k → IsWritten i m v → AreMembers ps
      → AreWrittenMembers i m outer k v ps
  members_written i m outer k v no_pairs q w hs = record {
    members = last_member q.pieces [] (colon_gap i) w.value (gap i outer);
    are = (q.fit, tt, colon_fits i, w.is, gap_fits i outer);
    spelt = λ r. simp (q.spelt, colon_spelt, w.spelt, gap_spelt);
    pairs = (λ j. (q.tree j, w.tree j) ∷ []);
    depth = omega (arith, w.depth);
  }
  members_written i m outer k v (pair l u ps) q w hs =
      let ws = members_written i m outer l u ps (key_written l hs.0) (written i m u hs.1) hs.2 in
      record {
        members = member q.pieces [] (colon_gap i) w.value [] (gap i m) ws.members;
        are = (q.fit, tt, colon_fits i, w.is, tt, gap_fits i m, ws.are);
        spelt = λ r. simp (q.spelt, colon_spelt, w.spelt, gap_spelt, ws.spelt, append_assoc);
        pairs = (λ j. (q.tree j, w.tree j) ∷ ws.pairs j);
        depth = omega (arith, w.depth, ws.depth);
      }

pub json_texts_are_json : JsonTextsAreJson
json_texts_are_json i t h low =
    let w = written i 0 t h in (
      record { before = []; value = w.value; after = [] },
      record { before = tt; value = w.is; after = tt; depth = omega (arith, w.depth) },
      w.spelt [] ∙ append-nil (json_text i 0 t),
      w.tree,
    )
