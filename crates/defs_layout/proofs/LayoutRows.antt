-- Texts that are in the layout relation, and written things that are not, each shown by computing.
use Prim.Native.String.{String}
use Rattle.std.specs.Fmt.{digits}
use Rattle.defs_layout.proofs.Common.{[], Anchor, anchored, anchors_after, AreDocuments, AreEntries, AreLaidOut, arith, array, at_key, below, beside, blank, Block, block, codes, comment, comment_line, compact, Document, document, element, empty_array, empty_line, entry, explicit, false, field, folded, hash, implicit, inline, is_blank, is_decimal, is_line_character, is_literal_character, is_literal_text, is_on_one_line, is_quoted, is_root_literal, is_unescaped, is_unfit_for_plain, IsField, IsImplicitKey, IsValue, itself, Json, last_document, last_element, last_entry, last_field, last_member, last_tree, Layout, line_feed, List, no_comment, no_exponent, no_fraction, number, replicate, Root, scalar, single_quoted, Some, space, tab, Tree, trees_of, true, true≢false, typing, Value, ℕ, ◌∷◌, ◌≡◌}
use Rattle.defs_text.specs.BlockScalar.{row_of, is_empty_line, is_content_line}
use Rattle.defs_layout.specs.Layout as layout
use Rattle.defs_tree.proofs.TreeWords as tree
use Rattle.defs_tree.proofs.TreeWords.{text, list, mapping}
use Rattle.defs_layout.proofs.RowWords.{word, integer, line, one, empty, nested, differ}

-- ---- words for the examples

-- a document without a gap, whose root is a block at column 0
abbrev plainly : Block → Document
plainly b = record { gap = []; root = block 0 b }

-- one document after its `---`
abbrev alone : Block → Layout
alone b = record { is_marked = true; documents = last_document (plainly b) [] }

-- a number of one digit or more in JSON
abbrev json_number : List ℕ → Json
json_number w = Json.number (number false w no_fraction no_exponent)

-- what was written is a layout of the trees as the text
abbrev Shows : Layout → List Tree → String → Type 0
Shows w ts s = layout.IsLayout w × (layout.spell w [] ≡ codes s) × (trees_of w.documents ≡ ts)

shown : (w : Layout) (ts : List Tree) (s : String) → Shows w ts s → AreLaidOut ts (codes s)
shown w ts s h = (w, h.0, h.1, h.2)

-- ---- texts in the relation

record Rows : Type 0 where
  -- an anchor before a block and an alias, single quotes, a folded block, JSON on one line
  many_forms : Shows
      (alone (hash
      (field (implicit (word "a")
      (anchored 0 (codes "x") (below no_comment [] 2 (hash (last_field (implicit (word "k") (one (single_quoted (codes "it's"))))))))) []
      (field (implicit (word "b") (Value.alias 0 (codes "x") (mapping ((text "k", text "it's") ∷ [])))) []
      (field (implicit (word "c") (folded 0 2 true (codes "p q\nr") (line "p" ∷ line "q" ∷ blank 0 ∷ line "r" ∷ []))) []
      (last_field (implicit (word "d") (Value.json 0
      (Json.array [] (element (json_number (codes "1")) [] (space ∷ [])
      (last_element (Json.object [] (last_member (itself 101 ∷ []) [] (space ∷ []) (json_number (codes "2")) [])) [])))))))))))
      (mapping ((text "a", mapping ((text "k", text "it's") ∷ []))
      ∷ (text "b", mapping ((text "k", text "it's") ∷ []))
      ∷ (text "c", text "p q\nr")
      ∷ (text "d", list (tree.number 1 ∷ mapping ((text "e", tree.number 2) ∷ []) ∷ [])) ∷ []) ∷ [])
      "---\na: &x\n  k: 'it''s'\nb: *x\nc: >-\n  p\n  q\n\n  r\nd: [1, {\"e\": 2}]"
  -- a JSON array as key
  json_key : Shows
      (alone (hash (last_field (explicit
      (Value.json 0 (Json.array [] (element (json_number (codes "1")) [] (space ∷ []) (last_element (json_number (codes "2")) []))))
      [] (one (word "x"))))))
      (mapping ((list (tree.number 1 ∷ tree.number 2 ∷ []), text "x") ∷ []) ∷ [])
      "---\n? [1, 2]\n: x"
  -- no `---`, comments after a key and after a scalar, an array at its key's column
  array_at_key : Shows
      (record {
        is_marked = false;
        documents = last_document (record {
          gap = comment_line (codes " top") ∷ [];
          root = block 0 (hash
              (field (implicit (word "k") (at_key (comment 0 (codes " why")) []
              (entry (beside 0 (scalar (single_quoted (codes "a"))) (comment 0 (codes " b"))) [] (last_entry (one (word "x")))))) []
              (last_field (implicit (word "m") (one (integer 1))))));
        }) [];
      })
      (mapping ((text "k", list (text "a" ∷ text "x" ∷ [])) ∷ (text "m", tree.number 1) ∷ []) ∷ [])
      "# top\nk: # why\n- 'a' # b\n- x\nm: 1"
  -- an alias means the last anchor of its name before it
  anchor_again : Shows
      (alone (array (entry (anchored 0 (codes "n") (one (integer 5))) [] (entry (Value.alias 0 (codes "n") (tree.number 5)) []
      (entry (anchored 0 (codes "n") (one (integer 6))) [] (last_entry (Value.alias 0 (codes "n") (tree.number 6))))))))
      (list (tree.number 5 ∷ tree.number 5 ∷ tree.number 6 ∷ tree.number 6 ∷ []) ∷ [])
      "---\n- &n 5\n- *n\n- &n 6\n- *n"
  -- three documents
  documents : Shows
      (record {
        is_marked = false;
        documents =
            document (plainly (hash (last_field (implicit (word "a") (one (integer 1)))))) (empty_line ∷ [])
            (document (plainly (array (last_entry (one (word "b"))))) (comment_line (codes " c") ∷ [])
            (last_document (record { gap = []; root = inline (scalar (integer 5)) }) []));
      })
      (mapping ((text "a", tree.number 1) ∷ []) ∷ list (text "b" ∷ []) ∷ tree.number 5 ∷ [])
      "a: 1\n\n---\n- b\n# c\n---\n5"
  -- a literal block at column 0, line feeds, and the next document, which is one in single quotes
  literal_and_document : Shows
      (record {
        is_marked = true;
        documents =
            document (record { gap = []; root = Root.literal (codes "a\nb\n") (line "a" ∷ line "b" ∷ []) }) (empty_line ∷ [])
            (last_document (record { gap = []; root = inline (scalar (single_quoted (codes "c"))) }) (empty_line ∷ []));
      })
      (text "a\nb\n" ∷ text "c" ∷ []) "---\n|\na\nb\n\n---\n'c'\n"
  -- a folded block that keeps one break, with a more indented line and a line that begins with a tab; an anchored literal block and its
  -- alias
  blocks_as_items : Shows
      (alone (array
      (entry (folded 0 1 false (codes "a b\n  c\nd\n\te\nf\n")
      (line "a" ∷ line "b" ∷ line "  c" ∷ line "d" ∷ line "\te" ∷ line "f" ∷ [])) []
      (entry (anchored 0 (codes "l1") (Value.literal 0 2 (codes "p\nq\n") (line "p" ∷ line "q" ∷ []))) []
      (last_entry (Value.alias 1 (codes "l1") (text "p\nq\n")))))))
      (list (text "a b\n  c\nd\n\te\nf\n" ∷ text "p\nq\n" ∷ text "p\nq\n" ∷ []) ∷ [])
      "---\n- >\n a\n b\n   c\n d\n \te\n f\n- &l1 |\n  p\n  q\n-  *l1"
  -- a folded block, a gap after it, and further text
  folded_before_gap : Shows
      (alone (array
      (entry (folded 0 1 true (codes "a") (line "a" ∷ [])) (empty_line ∷ comment_line (codes " c") ∷ []) (last_entry (one (word "b"))))))
      (list (text "a" ∷ text "b" ∷ []) ∷ []) "---\n- >-\n a\n\n# c\n- b"
  -- an anchor inside the node of the same anchor: after that node the alias means the inner one, which stands later
  inner_anchor : last_tree (codes "a")
      (anchors_after (anchored 0 (codes "a") (below no_comment [] 2 (array (last_entry (anchored 0 (codes "a") (one (integer 1))))))) [])
      ≡ Some (tree.number 1)

rows : Rows
unfolding is_quoted is_unfit_for_plain typing is_decimal is_line_character is_unescaped is_on_one_line row_of is_empty_line is_content_line is_blank digits is_literal_text is_literal_character is_root_literal
rows = search (arith, differ, true≢false)

-- ---- written things that are no layout, beside one that is

record Refused : Type 0 where
  -- keys in single quotes, of 1024 characters and of one more
  key_1024 : IsImplicitKey (single_quoted (replicate 1022 97))
  key_1025 : ¬ IsImplicitKey (single_quoted (replicate 1023 97))
  -- an LF and a NUL in single quotes
  break_in_quotes : ¬ IsValue 0 [] (one (single_quoted (codes "a\nb")))
  nul_in_quotes : ¬ IsValue 0 [] (one (single_quoted (97 ∷ 0 ∷ [])))
  -- an alias inside the node that has its anchor
  alias_inside : (t : Tree)
      → ¬ IsValue 0 [] (anchored 0 (codes "a") (below no_comment [] 2 (array (last_entry (Value.alias 0 (codes "a") t)))))
  -- an alias in another document than its anchor
  alias_past_document : (t : Tree) → ¬ AreDocuments
      (document (plainly (array (last_entry (anchored 0 (codes "a") (one (word "b")))))) []
      (last_document (plainly (array (last_entry (Value.alias 0 (codes "a") t)))) []))
  -- an alias that stands for another tree than its anchor's
  alias_of_other : ¬ AreEntries 0 [] (entry (anchored 0 (codes "a") (one (word "b"))) [] (last_entry (Value.alias 0 (codes "a") Tree.null)))
  -- a name that holds a sign
  name_with_sign : ¬ IsValue 0 [] (anchored 0 (codes "a-b") (one (single_quoted [])))
  -- an anchor before an empty array, before a folded block, and before a block on its line
  anchored_empty_array : ¬ IsValue 0 [] (anchored 0 (codes "a") empty)
  anchored_folded : ¬ IsValue 0 [] (anchored 0 (codes "a") (folded 0 1 true (codes "a") (line "a" ∷ [])))
  anchored_compact : ¬ IsValue 0 [] (anchored 0 (codes "a") (compact 0 nested))
  -- a folded block whose first line begins with a space, one whose last line is empty, and one of another text
  folded_begins_with_space : ¬ IsValue 0 [] (folded 0 2 true (codes " a") (line " a" ∷ []))
  folded_ends_empty : ¬ IsValue 0 [] (folded 0 2 true (codes "a") (line "a" ∷ blank 0 ∷ []))
  folded_other_text : ¬ IsValue 0 [] (folded 0 2 true (codes "a\nb") (line "a" ∷ line "b" ∷ []))
  -- JSON that has a tab or a break, and JSON that is no array and no object
  json_with_break : ¬ IsValue 0 [] (Value.json 0 (Json.empty_array (line_feed ∷ [])))
  json_with_tab : ¬ IsValue 0 [] (Value.json 0 (Json.empty_array (tab ∷ [])))
  json_scalar : ¬ IsValue 0 [] (Value.json 0 Json.null_word)
  -- an array at the column of the dash that it is an item of, and at the column of the `:` after an array as key
  at_dash : ¬ AreEntries 0 [] (last_entry (at_key no_comment [] (last_entry empty)))
  at_complex_key : ¬ IsField 0 [] (explicit empty [] (at_key no_comment [] (last_entry empty)))
  -- an anchor before an array at the column of its key
  anchored_at_key : ¬ IsValue 0 [] (anchored 0 (codes "a") (at_key no_comment [] (last_entry empty)))
  -- behind `?` an anchor, an alias, whatever the anchors before, a folded block, and an array at the column of the `?`
  anchor_in_complex_key : ¬ IsField 0 [] (explicit (anchored 0 (codes "a") (below no_comment [] 2 nested)) [] empty)
  alias_in_complex_key : (t : Tree) (a : List Anchor) → ¬ IsField 0 a (explicit (Value.alias 0 (codes "a") t) [] empty)
  folded_in_complex_key : ¬ IsField 0 [] (explicit (folded 0 2 true (codes "a") (line "a" ∷ [])) [] empty)
  array_at_question_mark : ¬ IsField 0 [] (explicit (at_key no_comment [] (last_entry empty)) [] empty)
  -- a comment that holds a CR, an LF, a NUL
  comment_with_return : ¬ IsValue 0 [] (beside 0 empty_array (comment 0 (codes "a\r")))
  comment_with_line_feed : ¬ IsValue 0 [] (beside 0 empty_array (comment 0 (codes "a\nb")))
  comment_with_nul : ¬ IsValue 0 [] (beside 0 empty_array (comment 0 (97 ∷ 0 ∷ [])))
  -- a comment after a literal block at column 0, where the next document begins
  comment_after_literal_root : ¬ AreDocuments
      (document (record { gap = []; root = Root.literal (codes "a\nb") (line "a" ∷ line "b" ∷ []) }) (comment_line [] ∷ [])
      (last_document (record { gap = []; root = inline empty_array }) []))

refused : Refused
unfolding is_line_character row_of is_empty_line is_content_line is_blank is_on_one_line is_literal_text is_literal_character is_root_literal
refused = search (arith, true≢false)
