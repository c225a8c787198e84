-- JSON texts of trees, worked.
use Rattle.std.specs.Fmt.{digits}
use Rattle.defs_tree.proofs.TreeWords.{text, number, list, mapping}
use Rattle.defs_layout.proofs.Common.{[], codes, double_quoted, false, first_fault, has_other_key, index, is_json_number, is_json_real, is_no_number, json_text, key, None, refl, Some, Tree, true, written_character, ◌∷◌, ◌≡◌}

-- ---- reals

record RealRows : Type 0 where
  with_fraction : is_json_real (codes "1.0") ≡ true
  with_exponent : is_json_real (codes "-0e+07") ≡ true
  above_greatest : is_json_real (codes "9223372036854775808") ≡ true
  greatest : is_json_real (codes "9223372036854775807") ≡ false
  leading_zero : is_json_real (codes "01.5") ≡ false
  leading_plus : is_json_real (codes "+1.5") ≡ false
  no_digit_after : is_json_real (codes "1.") ≡ false
  no_digit_before : is_json_real (codes ".5") ≡ false
  infinity : is_json_real (codes ".inf") ≡ false
  minus_alone : is_json_real (codes "-") ≡ false

real_rows : RealRows
unfolding is_json_number
real_rows = search

-- ---- texts

escapes : double_quoted (34 ∷ 92 ∷ 47 ∷ 8 ∷ 12 ∷ 10 ∷ 13 ∷ 9 ∷ 0 ∷ 31 ∷ 127 ∷ 0x2028 ∷ []) ≡ codes "\"\\\"\\\\/\\b\\f\\n\\r\\t\\u0000\\u001f\\u007f\u{2028}\""
unfolding written_character
escapes = refl

-- `{a: [1, -2.50, null, true, []], b: {}}`
a_tree : Tree
a_tree = mapping
    ((text "a", list (number 1 ∷ Tree.real (codes "-2.50") ∷ Tree.null ∷ Tree.boolean true ∷ list [] ∷ [])) ∷ (text "b", mapping []) ∷ [])

record TextRows : Type 0 where
  compact : json_text None 0 a_tree ≡ codes "{\"a\":[1,-2.50,null,true,[]],\"b\":{}}"
  indented : json_text (Some 2) 0 a_tree ≡ codes "{\n  \"a\": [\n    1,\n    -2.50,\n    null,\n    true,\n    []\n  ],\n  \"b\": {}\n}"

text_rows : TextRows
unfolding a_tree written_character digits
text_rows = search

-- ---- faults

record FaultRows : Type 0 where
  none : first_fault a_tree ≡ None
  second_item : first_fault (mapping ((text "a", list (Tree.null ∷ Tree.real (codes ".5") ∷ Tree.alias 1 ∷ [])) ∷ []))
      ≡ Some (record { path = key (codes "a") ∷ index 1 ∷ []; reason = is_no_number })
  -- a hash comes before its values
  other_key : first_fault (list (mapping ((text "a", Tree.alias 1) ∷ (Tree.null, Tree.null) ∷ []) ∷ []))
      ≡ Some (record { path = index 0 ∷ []; reason = has_other_key })

fault_rows : FaultRows
unfolding a_tree is_json_number
fault_rows = search
