-- Texts that are in the layout relation, and written things that are not, each shown by computing.
use Prim.Native.String.{String}
use Rattle.std.specs.Fmt.{digits}
use Rattle.defs_layout.proofs.Common.{[], ap, AreDocuments, arith, array, below, blank, Block, codes, comment_line, Document, empty_array, empty_hash, empty_line, entry, explicit, false, field, GapLine, hash, implicit, is_decimal, is_line_character, is_literal_character, is_literal_text, is_quoted, is_root_literal, is_unfit_for_plain, IsBasic, IsBasicLayout, IsBlock, IsField, IsGap, IsImplicitKey, IsPlain, IsRoot, IsValue, Json, last_document, last_entry, last_field, Layout, List, negsuc, no_comment, plain, quoted, replicate, Root, scalar, slice_index, sym, Tree, trees_of, true, true≢false, typing, Value, written_character, ℕ, ◌==◌, ◌∙◌, ◌∷◌, ◌≡◌}
use Rattle.defs_layout.specs.Layout as layout
use Rattle.defs_tree.proofs.TreeWords.{text, number, list, mapping}
use Rattle.defs_layout.proofs.RowWords.{word, integer, line, one, empty, nested, differ}

-- ---- words for the examples

-- what stands on one line, after some spaces
abbrev beside : (more : ℕ) → layout.Inline → Value
beside more i = Value.beside more i no_comment

abbrev compact : (more : ℕ) → Block → Value
compact more b = Value.compact more b

-- one document after its `---`, and what stands after it
abbrev marked : Document → List GapLine → Layout
marked d after = record { is_marked = true; documents = last_document d after }

-- a document without gaps, whose root is a block at column 0
abbrev plainly : Block → Layout
plainly b = marked (record { gap = []; root = Root.block 0 b }) []

-- what was written is a basic layout of the tree as the text
abbrev Shows : Layout → Tree → String → Type 0
Shows w t s = layout.IsLayout w × IsBasic w × (layout.spell w [] ≡ codes s) × (trees_of w.documents ≡ t ∷ [])

shown : (w : Layout) (t : Tree) (s : String) → Shows w t s → IsBasicLayout t (codes s)
shown w t s h = (w, h.0, h.1, h.2, h.3)

-- ---- a text with each of the forms, and the rows of the relation, one by one

record Rows : Type 0 where
  -- arrays and hashes at many columns, an array as key, empty lines and comment lines between entries, a literal block with an empty line
  long_text : Shows
      (marked (record {
        gap = comment_line (codes " top") ∷ empty_line ∷ [];
        root = Root.block 3 (hash (field
            (explicit (compact 0 (array (entry (one (integer 1)) [] (last_entry (one (integer 2))))))
            (comment_line (codes " mid") ∷ [])
            (compact 6 (array (entry (one (word "x")) []
            (last_entry (Value.literal 0 17 (codes "p\n\nq\n") (line "p" ∷ blank 0 ∷ line "q" ∷ [])))))))
            []
            (last_field (implicit (word "k")
            (below no_comment (comment_line (codes " c") ∷ []) 5 (hash (last_field (implicit (word "z") (beside 0 empty_hash)))))))));
      }) (empty_line ∷ []))
      (mapping ((list (number 1 ∷ number 2 ∷ []), list (text "x" ∷ text "p\n\nq\n" ∷ []))
      ∷ (text "k", mapping ((text "z", mapping []) ∷ [])) ∷ []))
      "---\n# top\n\n   ? - 1\n     - 2\n# mid\n   :       - x\n           - |\n                 p\n\n                 q\n   k:\n# c\n     z: {}\n"
  -- the scalars: a null, a boolean, integers, a real, a string as it stands, one in double quotes that need not be, one with escapes
  scalars : Shows
      (plainly (array
      (entry (one (plain Tree.null)) [] (entry (one (plain (Tree.boolean true))) [] (entry (one (plain (Tree.integer (negsuc 6)))) []
      (entry (one (plain (Tree.real (codes "1e400")))) [] (entry (one (word "a b")) [] (entry (beside 2 (scalar (quoted (codes "a")))) []
      (last_entry (one (quoted (codes "\t\"\n"))))))))))))
      (list (Tree.null ∷ Tree.boolean true ∷ Tree.integer (negsuc 6) ∷ Tree.real (codes "1e400") ∷ text "a b" ∷ text "a" ∷ text "\t\"\n"
      ∷ []))
      "---\n- ~\n- true\n- -7\n- 1e400\n- a b\n-   \"a\"\n- \"\\t\\\"\\n\""
  -- an array at a deeper column than its key's, with a comment line before it and an empty line in it
  array_below_key : Shows
      (marked (record {
        gap = [];
        root = Root.block 0 (hash (last_field (implicit (word "a")
            (below no_comment (comment_line (codes " note") ∷ []) 5
            (array (entry (one (integer 1)) (empty_line ∷ []) (last_entry (one (integer 2)))))))));
      }) (empty_line ∷ []))
      (mapping ((text "a", list (number 1 ∷ number 2 ∷ [])) ∷ []))
      "---\na:\n# note\n     - 1\n\n     - 2\n"
  -- a literal block without a last break, and an entry after it
  literal_value : Shows
      (plainly (hash (field (implicit (word "foo") (Value.literal 0 2 (codes "bar!\nbar!") (line "bar!" ∷ line "bar!" ∷ []))) []
      (last_field (implicit (word "baz") (one (integer 42)))))))
      (mapping ((text "foo", text "bar!\nbar!") ∷ (text "baz", number 42) ∷ []))
      "---\nfoo: |-\n  bar!\n  bar!\nbaz: 42"
  -- an empty line of a literal block has as many spaces as the others at most: here none, two, and three
  literal_with_empty_lines : Shows
      (plainly (array (last_entry (Value.literal 0 3 (codes "\na\n\n\nb") (blank 3 ∷ line "a" ∷ blank 0 ∷ blank 2 ∷ line "b" ∷ [])))))
      (list (text "\na\n\n\nb" ∷ []))
      "---\n- |-\n   \n   a\n\n  \n   b"
  -- a block after `-` on its line, and one on the next line
  compact_array : Shows
      (plainly (array
      (entry (compact 0 (array (entry (one (integer 1)) [] (last_entry (one (integer 2)))))) [] (last_entry (beside 0 empty_array)))))
      (list (list (number 1 ∷ number 2 ∷ []) ∷ list [] ∷ []))
      "---\n- - 1\n  - 2\n- []"
  spread_array : Shows
      (plainly (array (entry (below no_comment [] 2 (array (entry (one (integer 1)) [] (last_entry (one (integer 2)))))) []
      (last_entry (beside 0 empty_array)))))
      (list (list (number 1 ∷ number 2 ∷ []) ∷ list [] ∷ []))
      "---\n-\n  - 1\n  - 2\n- []"
  -- a hash as key
  hash_as_key : Shows
      (plainly (hash (last_field (explicit
      (compact 0 (hash (last_field (implicit (word "key")
      (below no_comment [] 4 (array (entry (one (integer 1)) [] (entry (one (integer 2)) [] (last_entry (one (integer 3)))))))))))
      []
      (compact 0 (array (entry (one (integer 4)) [] (entry (one (integer 5)) [] (last_entry (one (integer 6)))))))))))
      (mapping ((mapping ((text "key", list (number 1 ∷ number 2 ∷ number 3 ∷ [])) ∷ []), list (number 4 ∷ number 5 ∷ number 6 ∷ [])) ∷ []))
      "---\n? key:\n    - 1\n    - 2\n    - 3\n: - 4\n  - 5\n  - 6"
  -- an empty array as key, after two spaces, and a key and a value on lines of their own
  other_keys : Shows
      (plainly (hash (field (explicit (beside 1 empty_array) [] (one (integer 1))) []
      (last_field (explicit (below no_comment [] 1 (array (last_entry (one (plain Tree.null))))) []
      (below no_comment [] 2 (array (last_entry (one (plain Tree.null))))))))))
      (mapping ((list [], number 1) ∷ (list (Tree.null ∷ []), list (Tree.null ∷ [])) ∷ []))
      "---\n?  []\n: 1\n?\n - ~\n:\n  - ~"
  -- a root on one line, after a gap, with a comment at the end that no break ends
  scalar_root : Shows
      (marked (record { gap = empty_line ∷ comment_line [] ∷ []; root = Root.inline (scalar (word "a")) })
      (comment_line (codes " end") ∷ []))
      (text "a") "---\n\n#\na\n# end"
  -- a literal block as root, and line feeds after it
  literal_root : Shows
      (marked (record { gap = []; root = Root.literal (codes "a\n\n b\n") (line "a" ∷ blank 0 ∷ line " b" ∷ []) })
      (empty_line ∷ empty_line ∷ []))
      (text "a\n\n b\n") "---\n|\na\n\n b\n\n"

rows : Rows
unfolding is_quoted is_unfit_for_plain typing is_decimal is_literal_text is_literal_character is_line_character digits written_character is_root_literal
rows = search (arith, differ, true≢false)

-- ---- written things that are no layout, beside some that are

-- the entry of an array alone, and the value of a key alone
abbrev entry_alone : Value → Layout
entry_alone v = plainly (array (last_entry v))

abbrev value_alone : Value → Layout
value_alone v = plainly (hash (last_field (implicit (word "k") v)))

-- an array of one integer
abbrev one_integer : layout.Entries
one_integer = last_entry (one (integer 1))

record Refused : Type 0 where
  -- keys of 1024 characters, and of one more: so many letters, and two quotes
  key_1024 : IsImplicitKey (quoted (replicate 1022 97))
  key_1025 : ¬ IsImplicitKey (quoted (replicate 1023 97))
  -- a nested block at the column of what it is nested in; one column deeper it may stand
  same_column : ¬ IsValue 3 [] (below no_comment [] 3 nested)
  one_column_deeper : IsValue 3 [] (below no_comment [] 4 nested)
  -- the lines of a literal block likewise
  literal_at_same_column : ¬ IsValue 1 [] (Value.literal 0 1 (codes "a\nb") (line "a" ∷ line "b" ∷ []))
  -- a literal text that ends in two breaks, one that is breaks alone, one whose first line begins with a space, one without a break
  ends_in_two_breaks : ¬ IsValue 0 [] (Value.literal 0 2 (codes "a\n\n") (line "a" ∷ blank 0 ∷ []))
  breaks_alone : ¬ IsValue 0 [] (Value.literal 0 2 (codes "\n") (blank 0 ∷ []))
  begins_with_space : ¬ IsValue 0 [] (Value.literal 0 2 (codes "\n a\nb") (blank 0 ∷ line " a" ∷ line "b" ∷ []))
  without_break : ¬ IsValue 0 [] (Value.literal 0 2 (codes "a") (line "a" ∷ []))
  -- an empty line with more spaces than the others have
  deeper_empty_line : ¬ IsValue 0 [] (Value.literal 0 2 (codes "a\n\nb") (line "a" ∷ blank 3 ∷ line "b" ∷ []))
  -- at the root, a first line that begins with a tab, a line that is a document marker, and a comment after the block
  root_begins_with_tab : ¬ IsRoot (Root.literal (codes "\ta\nb") (line "\ta" ∷ line "b" ∷ []))
  root_holds_marker : ¬ IsRoot (Root.literal (codes "a\n---\nb") (line "a" ∷ line "---" ∷ line "b" ∷ []))
  comment_after_literal_root : ¬ AreDocuments
      (last_document (record { gap = []; root = Root.literal (codes "a\nb") (line "a" ∷ line "b" ∷ []) }) (comment_line [] ∷ []))
  -- a comment line that holds CR, and one that holds NUL
  comment_with_return : ¬ IsGap (comment_line (codes "a\r") ∷ [])
  comment_with_nul : ¬ IsGap (comment_line (0 ∷ []) ∷ [])
  -- a block on the line of its scalar key; a scalar after `?`
  block_beside_key : ¬ IsField 0 [] (implicit (quoted (codes "a")) (compact 0 nested))
  scalar_after_question_mark : ¬ IsField 0 [] (explicit (one (quoted (codes "a"))) [] empty)
  -- a key twice, as it stands and in quotes
  repeated_key : ¬ IsBlock 0 [] (hash (field (implicit (word "a") empty) [] (last_field (implicit (quoted (codes "a")) empty))))
  -- strings that are quoted, a text that is no real, an integer past 64 bits, and the two variants that have no text
  plain_colon : ¬ IsPlain (text "a: b")
  plain_number : ¬ IsPlain (text "12")
  no_real : ¬ IsPlain (Tree.real (codes "12"))
  no_integer : ¬ IsPlain (number 9223372036854775808)
  no_alias : ¬ IsPlain (Tree.alias 1)
  no_bad_value : ¬ IsPlain Tree.bad_value

refused : Refused
unfolding is_literal_text is_literal_character is_root_literal is_line_character is_quoted is_unfit_for_plain typing is_decimal written_character
refused = search (arith, true≢false)

-- ---- written things with a form that no basic layout has

record NotBasic : Type 0 where
  -- single quotes: at the root, of a value, of a key
  single_quoted_root : ¬ IsBasic (marked (record { gap = []; root = Root.inline (scalar (layout.single_quoted (codes "a"))) }) [])
  single_quoted_value : ¬ IsBasic (entry_alone (one (layout.single_quoted (codes "a"))))
  single_quoted_key : ¬ IsBasic (plainly (hash (last_field (implicit (layout.single_quoted (codes "a")) (one (integer 1))))))
  -- a comment on the line of a scalar, and one on the line of a key
  comment_beside_scalar : ¬ IsBasic (entry_alone (Value.beside 0 (scalar (integer 1)) (layout.comment 0 (codes " a"))))
  comment_beside_key : ¬ IsBasic (value_alone (below (layout.comment 0 (codes " a")) [] 2 (array one_integer)))
  -- a folded block, a JSON array, an array at the column of its key
  folded_block : ¬ IsBasic (entry_alone (Value.folded 0 2 true (codes "a") (line "a" ∷ [])))
  json_array : ¬ IsBasic (entry_alone (Value.json 0 (Json.empty_array [])))
  array_at_key : ¬ IsBasic (value_alone (Value.at_key no_comment [] one_integer))
  -- an anchor, and an alias
  anchored_value : ¬ IsBasic (entry_alone (Value.anchored 0 (codes "a") (one (integer 1))))
  alias_as_value : (t : Tree) → ¬ IsBasic (plainly (array (entry (one (integer 1)) [] (last_entry (Value.alias 0 (codes "a") t)))))
  -- a second document, and no `---`
  second_document : ¬ IsBasic (record {
    is_marked = true;
    documents = layout.document (record { gap = []; root = Root.block 0 (array one_integer) }) []
        (last_document (record { gap = []; root = Root.block 0 (array one_integer) }) []);
  })
  unmarked : ¬ IsBasic
      (record { is_marked = false; documents = last_document (record { gap = []; root = Root.block 0 (array one_integer) }) [] })

not_basic : NotBasic
not_basic = search (arith, true≢false)

-- ---- texts that no written thing has

-- a text that doesn't begin with `---` is a layout of no tree
begins_with_dash : {t : Tree} {text : List ℕ} → IsBasicLayout t text → slice_index text 0 == 45 ≡ true
begins_with_dash (w, is, basic, spelt, trees) =
    ap (λ x. slice_index x 0 == 45) (sym spelt) ∙ ap (λ b. slice_index (layout.spell_mark b (layout.spell_documents w.documents [])) 0 == 45) basic.0

without_marker : (t : Tree) → ¬ IsBasicLayout t (codes "a: 1")
without_marker t h = true≢false (sym (begins_with_dash h))

empty_text : (t : Tree) → ¬ IsBasicLayout t []
empty_text t h = true≢false (sym (begins_with_dash h))
