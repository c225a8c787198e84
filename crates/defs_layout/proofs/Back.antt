-- The value of a JSON text has a JSON text, and nests as the text does.
use Rattle.defs_layout.proofs.Common.{[], AllHaveJson, and_from, and_parts, ap, are_characters, are_pieces, AreElements, AreMembers, arith, Bool, element, element_levels, Elements, exponent, false, fits_i64, fraction, HasJson, if◌then◌else◌, integer, integer_value, is_character, is_number, is_piece, is_unescaped, IsJson, item_nesting, items, Json, last_element, last_member, levels, List, max, member, member_levels, member_nesting, Members, nat_tests, nesting, no_exponent, no_fraction, Number, number, number_tree, pair_list, pairs_of, Piece, real, refl, spell_number, suc, tree_of, true, unescaped, value_of, ValuesHaveJson, ◌∷◌, ◌≡◌, eqb-true}
use Rattle.defs_layout.specs.Json as json
use Rattle.defs_layout.proofs.Numbers.{real_from}
use Rattle.defs_tree.proofs.OverlayLaws.{list_of_pairs}

-- ---- strings

piece_is : (p : Piece) → is_piece p ≡ true → is_character (value_of p) ≡ true
unfolding is_unescaped
piece_is e h = grind (arith, nat_tests, eqb-true, and_parts)

pieces_are : (ps : List Piece) → are_pieces ps ≡ true → are_characters (unescaped ps) ≡ true
pieces_are [] h = refl
pieces_are (p ∷ ps) h = grind (arith, and_parts, and_from, piece_is, pieces_are ps)

-- ---- numbers

number_has : (n : Number) → is_number n ≡ true → HasJson (number_tree n)
number_has (number m w no_fraction no_exponent) h = by (fits_i64 (integer_value m w)) refl
  where
    by : (b : Bool) → fits_i64 (integer_value m w) ≡ b → HasJson (if b then integer (integer_value m w) else real (spell_number (number m w no_fraction no_exponent) []))
    by true e = e
    by false e = real_from (number m w no_fraction no_exponent) _ h (ap (λ b. if b then integer (integer_value m w) else real (spell_number (number m w no_fraction no_exponent) [])) e)
number_has (number m w no_fraction (exponent b s d)) h = real_from (number m w no_fraction (exponent b s d)) _ h refl
number_has (number m w (fraction d) e) h = real_from (number m w (fraction d) e) _ h refl

-- ---- values

mutual
  has : (v : Json) → IsJson v → HasJson (tree_of v)
  has (json.number n) h = number_has n h
  has (json.string ps) h = pieces_are ps h
  has (json.array g es) h = all_have es h.1
  has (json.empty_object g) h = (tt, tt)
  has (json.object g ms) h = (rw (list_of_pairs (pair_list ms)) h.2, are_members ms h.1)
  has v h = tt

  all_have : (es : Elements) → AreElements es → AllHaveJson (items es)
  all_have (last_element v a) h = (has v h.0, tt)
  all_have (element v a b es) h = (has v h.0, all_have es h.3)

  are_members : (ms : Members) → json.AreMembers ms → AreMembers (pairs_of (pair_list ms))
  are_members (last_member k g q v a) h = (pieces_are k h.0, has v h.3, tt)
  are_members (member k g q v a b ms) h = (pieces_are k h.0, has v h.3, are_members ms h.6)

mutual
  nests : (v : Json) → nesting (tree_of v) ≡ levels v
  nests (json.number n) = grind arith
  nests (json.array g es) = ap suc (items_nest es)
  nests (json.object g ms) = ap suc (members_nest ms)
  nests v = refl

  items_nest : (es : Elements) → item_nesting (items es) ≡ element_levels es
  items_nest (last_element v a) = omega (arith, nests v)
  items_nest (element v a b es) = (λ i. max (nests v i) (items_nest es i))

  members_nest : (ms : Members) → member_nesting (pairs_of (pair_list ms)) ≡ member_levels ms
  members_nest (last_member k g q v a) = omega (arith, nests v)
  members_nest (member k g q v a b ms) = (λ i. max (nests v i) (members_nest ms i))

pub values_have_json : ValuesHaveJson
values_have_json t text h = grind (arith, has, nests)
