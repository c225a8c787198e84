-- JSON texts that are in the relation, and written things that are not, each shown by computing.
use Prim.Native.String.{String}
use Rattle.defs_layout.proofs.Common.{[], ap, are_pieces, arith, Blank, carriage_return, codes, element, Elements, exponent, false, fraction, is_empty, is_number, is_unescaped, IsJson, IsJsonText, IsWellFormed, itself, Json, JsonText, last_element, last_member, levels, line_feed, List, map, member, minus, negsuc, no_exponent, no_fraction, no_sign, number, number_tree, Piece, plus, refl, replicate, Short, short, space, spell, suc, sym, tab, Tree, tree_of, true, true≢false, unicode, zero, ℕ, ◌++◌, ◌+◌, ◌∙◌, ◌∷◌, ◌≡◌, ◌≤◌}
use Rattle.defs_layout.specs.Json.{spell_text}
use Rattle.defs_layout.specs.JsonGap.{spell_gap}
use Rattle.defs_tree.proofs.TreeWords as tree
use Rattle.defs_tree.proofs.TreeWords.{text, list, mapping}
use Rattle.defs_layout.proofs.RowWords.{differ}

-- ---- words for the examples

-- a string of which each character stands for itself
abbrev raw : String → List Piece
raw s = map itself (codes s)

abbrev string : String → Json
string s = Json.string (raw s)

abbrev whole : String → Json
whole s = Json.number (number false (codes s) no_fraction no_exponent)

-- an array without white space, of one value and others
abbrev elements : Json → List Json → Elements
elements v [] = last_element v []
elements v (w ∷ ws) = element v [] [] (elements w ws)

-- a text without white space around its value
abbrev alone : Json → JsonText
alone v = record { before = []; value = v; after = [] }

-- `1e400`, a number that no integer is
abbrev great : Json
great = Json.number (number false (codes "1") no_fraction (exponent false no_sign (codes "400")))

abbrev great_tree : Tree
great_tree = Tree.real (codes "1e400")

-- what was written is a JSON text of the tree
abbrev Shows : JsonText → Tree → List ℕ → Type 0
Shows w t s = IsWellFormed w × (spell_text w ≡ s) × (tree_of w.value ≡ t)

shown : (w : JsonText) (t : Tree) (s : List ℕ) → Shows w t s → IsJsonText t s
shown w t s h = (w, h.0, h.1, h.2)

-- ---- values in the relation

record Rows : Type 0 where
  -- `{"k"` LF `:1,"b":[true,null,1e400,-0]}`: a break before a colon, a number that no integer is, and minus zero
  an_object : Shows
      (alone (Json.object [] (member (raw "k") (line_feed ∷ []) [] (whole "1") [] []
      (last_member (raw "b") [] []
      (Json.array []
      (elements Json.true_word (Json.null_word ∷ great ∷ Json.number (number true (codes "0") no_fraction no_exponent) ∷ []))) []))))
      (mapping ((text "k", tree.number 1) ∷ (text "b", list (Tree.boolean true ∷ Tree.null ∷ great_tree ∷ tree.number 0 ∷ [])) ∷ []))
      (codes "{\"k\"\n:1,\"b\":[true,null,1e400,-0]}")
  -- `[1e400, "a b", [], null]`, with spaces
  an_array : Shows
      (alone (Json.array [] (element great [] (space ∷ [])
      (element (string "a b") [] (space ∷ []) (element (Json.empty_array []) [] (space ∷ []) (last_element Json.null_word []))))))
      (list (great_tree ∷ text "a b" ∷ list [] ∷ Tree.null ∷ []))
      (codes "[1e400, \"a b\", [], null]")
  -- an object indented by tabs
  indented_by_tabs : Shows
      (alone (Json.object (line_feed ∷ tab ∷ []) (last_member (raw "a") [] (space ∷ [])
      (Json.array (line_feed ∷ tab ∷ tab ∷ []) (last_element (whole "1") (line_feed ∷ tab ∷ []))) (line_feed ∷ []))))
      (mapping ((text "a", list (tree.number 1 ∷ [])) ∷ []))
      (codes "{\n\t\"a\": [\n\t\t1\n\t]\n}")
  -- white space around the value, with a tab at the text's start and one after CR LF
  around_the_value : Shows
      (record { before = tab ∷ space ∷ []; value = Json.false_word; after = space ∷ carriage_return ∷ line_feed ∷ tab ∷ line_feed ∷ [] })
      (Tree.boolean false) (codes "\t false \r\n\t\n")
  -- all short escapes, an escape by number in both cases of letters, and an empty string
  escapes : Shows
      (alone (Json.array [] (elements
      (Json.string (short Short.quotation_mark ∷ short Short.reverse_solidus ∷ short Short.solidus ∷ short Short.backspace
      ∷ short Short.form_feed ∷ short Short.new_line ∷ short Short.return ∷ short Short.tabulator ∷ []))
      (Json.string (unicode 97 98 99 100 ∷ unicode 65 66 67 68 ∷ unicode 48 48 48 48 ∷ []) ∷ string "" ∷ []))))
      (list (Tree.string (34 ∷ 92 ∷ 47 ∷ 8 ∷ 12 ∷ 10 ∷ 13 ∷ 9 ∷ []) ∷ Tree.string (0xABCD ∷ 0xABCD ∷ 0 ∷ []) ∷ text "" ∷ []))
      (codes "[\"\\\"\\\\\\/\\b\\f\\n\\r\\t\",\"\\uabcd\\uABCD\\u0000\",\"\"]")
  -- characters that other readers take for breaks stand in a string as they are: U+0085 and U+2028
  not_breaks : Shows
      (alone (Json.string (map itself (0x85 ∷ 0x2028 ∷ []))))
      (Tree.string (0x85 ∷ 0x2028 ∷ [])) (34 ∷ 0x85 ∷ 0x2028 ∷ 34 ∷ [])
  -- two keys that differ only as texts, one empty
  two_keys : Shows
      (alone (Json.object [] (member (raw "") [] [] Json.null_word [] [] (last_member (raw "a") [] [] (Json.empty_object []) []))))
      (mapping ((text "", Tree.null) ∷ (text "a", mapping []) ∷ []))
      (codes "{\"\":null,\"a\":{}}")
  one_two : Shows
      (alone (Json.array [] (element (whole "1") [] (space ∷ []) (last_element (whole "2") []))))
      (list (tree.number 1 ∷ tree.number 2 ∷ [])) (codes "[1, 2]")
  array_in_object : Shows
      (alone (Json.object [] (member (raw "a") [] [] (whole "1") [] []
      (last_member (raw "b") [] [] (Json.array [] (elements Json.true_word (Json.null_word ∷ []))) []))))
      (mapping ((text "a", tree.number 1) ∷ (text "b", list (Tree.boolean true ∷ Tree.null ∷ [])) ∷ []))
      (codes "{\"a\":1,\"b\":[true,null]}")
  -- white space alone inside an array and an object
  empty_inside : Shows
      (alone (Json.array [] (elements (Json.empty_array (space ∷ line_feed ∷ tab ∷ [])) (Json.empty_object (space ∷ []) ∷ []))))
      (list (list [] ∷ mapping [] ∷ [])) (codes "[[ \n\t],{ }]")
  -- a number alone
  number_alone : Shows
      (alone (Json.number (number true (codes "12") (fraction (codes "50")) (exponent true plus (codes "07")))))
      (Tree.real (codes "-12.50E+07")) (codes "-12.50E+07")

rows : Rows
unfolding is_unescaped
rows = search (arith, differ)

-- ---- numbers

record NumberRows : Type 0 where
  -- the least integer of 64 bits, and the next below, which is a real
  least_integer : number_tree (number true (codes "9223372036854775808") no_fraction no_exponent)
      ≡ Tree.integer (negsuc 9223372036854775807)
  below_least : number_tree (number true (codes "9223372036854775809") no_fraction no_exponent) ≡ Tree.real (codes "-9223372036854775809")
  -- the greatest, and the next above
  greatest_integer : number_tree (number false (codes "9223372036854775807") no_fraction no_exponent) ≡ tree.number 9223372036854775807
  above_greatest : number_tree (number false (codes "9223372036854775808") no_fraction no_exponent)
      ≡ Tree.real (codes "9223372036854775808")
  -- with a fraction or an exponent a number is a real, as it is written
  with_fraction : number_tree (number false (codes "1") (fraction (codes "0")) no_exponent) ≡ Tree.real (codes "1.0")
  with_both : number_tree (number true (codes "12") (fraction (codes "50")) (exponent true plus (codes "07")))
      ≡ Tree.real (codes "-12.50E+07")
  -- a zero before another digit, no digit after a point, no digit at all, no digit after `e`
  leading_zero : is_number (number false (codes "01") no_fraction no_exponent) ≡ false
  empty_fraction : is_number (number false (codes "1") (fraction []) no_exponent) ≡ false
  minus_alone : is_number (number true [] no_fraction no_exponent) ≡ false
  empty_exponent : is_number (number false (codes "1") no_fraction (exponent false minus [])) ≡ false

number_rows : NumberRows
number_rows = search

-- ---- written things that are not JSON

record Refused : Type 0 where
  -- a tab after a value, and one after a space there; after a break it may stand
  tab_after_value : ¬ IsJson (Json.array [] (last_element Json.null_word (tab ∷ [])))
  tab_after_space : ¬ IsWellFormed (record { before = []; value = Json.null_word; after = space ∷ tab ∷ [] })
  -- a tab as it stands in a string
  raw_tab : are_pieces (raw "\t") ≡ false
  -- NUL as it stands, a quotation mark, a reverse solidus
  raw_nul : are_pieces (itself 0 ∷ []) ≡ false
  raw_quotation_mark : are_pieces (raw "\"") ≡ false
  raw_reverse_solidus : are_pieces (raw "\\") ≡ false
  -- `\ud83d\ude00` is a pair of surrogates; both halves are refused in any case of letters, what lies beside them is not
  surrogate_pair : are_pieces (unicode 100 56 51 100 ∷ unicode 100 101 48 48 ∷ []) ≡ false
  first_surrogate : are_pieces (unicode 68 56 48 48 ∷ []) ≡ false
  last_surrogate : are_pieces (unicode 68 70 102 70 ∷ []) ≡ false
  beside_surrogates : are_pieces (unicode 68 55 70 70 ∷ unicode 69 48 48 48 ∷ []) ≡ true
  -- an escape that has a letter past F
  no_digit : are_pieces (unicode 48 48 48 103 ∷ []) ≡ false
  -- `{"a":1,"\u0061":2}`: the keys are one when they are unescaped
  repeated_key : ¬ IsJson
      (Json.object [] (member (raw "a") [] [] (whole "1") [] [] (last_member (unicode 48 48 54 49 ∷ []) [] [] (whole "2") [])))

refused : Refused
unfolding is_unescaped
refused = search (arith, true≢false)

-- ---- levels

-- arrays around a value, and n around an empty one
abbrev around : ℕ → Json → Json
around zero v = v
around (suc n) v = Json.array [] (last_element (around n v) [])

abbrev nested : ℕ → Json
nested n = around n (Json.empty_array [])

-- an object
abbrev an_object : Json → Json
an_object v = Json.object [] (last_member (raw "a") [] [] v [])

levels_around : (n : ℕ) (v : Json) → IsJson v → IsJson (around n v) × (levels (around n v) ≡ n + levels v)
levels_around zero v h = (h, omega arith)
levels_around (suc n) v h = let r = levels_around n v h in ((tt, (r.0, tt)), omega (arith, r.1))

-- 255 levels of arrays are JSON, 256 are not
levels_255 : IsWellFormed (alone (nested 254))
levels_255 =
    let r = levels_around 254 (Json.empty_array []) tt in
    record { before = tt; value = r.0; after = tt; depth = rw r.1 (omega arith) }

levels_256 : ¬ IsWellFormed (alone (nested 255))
levels_256 h = let d : 256 ≤ 255 = rw ((levels_around 255 (Json.empty_array []) tt).1) at h.depth in omega arith

-- the innermost may be an object
objects_255 : IsWellFormed (alone (around 254 (an_object (whole "1"))))
unfolding is_unescaped
objects_255 =
    let r = levels_around 254 (an_object (whole "1")) search in
    record { before = tt; value = r.0; after = tt; depth = rw r.1 (omega arith) }

-- so 255 `[` and 255 `]` are a text
text_of_255 : IsJsonText (tree_of (nested 254)) (replicate 255 91 ++ replicate 255 93)
text_of_255 = (alone (nested 254), levels_255, refl, refl)

-- and 254 arrays around an object that holds an array are none
objects_256 : ¬ IsWellFormed (alone (around 254 (an_object (Json.empty_array []))))
unfolding is_unescaped
objects_256 h = let d : 256 ≤ 255 = rw ((levels_around 254 (an_object (Json.empty_array [])) search).1) at h.depth in omega arith

-- ---- a text that no written thing has

not_empty_after : (v : Json) (r : List ℕ) → IsJson v → is_empty (spell v r) ≡ false
not_empty_after (Json.number (number false [] f e)) r h = absurd (true≢false (sym h))
not_empty_after v r h = refl

not_empty : (g : List Blank) (v : Json) (r : List ℕ) → IsJson v → is_empty (spell_gap g (spell v r)) ≡ false
not_empty [] v r h = not_empty_after v r h
not_empty (b ∷ g) v r h = refl

-- the empty text is no JSON
empty_text : (t : Tree) → ¬ IsJsonText t []
empty_text t h = true≢false (sym (ap is_empty h.2) ∙ not_empty h.0.before h.0.value _ h.1.value)
