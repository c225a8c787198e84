-- Texts laid out in lines and their tokens: what the theorem says of each form, of anchors, an alias and a folded block; and a refused text.
use Prim.Native.String.{String}
use Rattle.proof_loads.proofs.Common.{[], anchored, ap, arith, At, below, beside, blank, Block, codes, comment_line, compact, digits, Elements, empty_hash, empty_line, entry, Err, explicit, exponent, false, field, folded, fraction, full, HasToks, implicit, Inline, is_blank, is_content_line, is_decimal, is_empty_line, is_line_character, is_literal_character, is_literal_text, is_on_one_line, is_quoted, is_unescaped, is_unfit_for_plain, itself, json, Json, last_document, last_entry, last_field, literal, Members, no_comment, no_exponent, no_fraction, number, pairs_of, plain, plus, pos, quoted, refl, Root, row_of, Scalar, scalar, scan, scan_on_literals, single_quoted, Style, sym, Tok, Tree, tree_eq, true, true≢false, typing, Value, written_character, ◌∙◌, ◌∷◌, ◌≡◌, ◌≢◌, Blank, Problem, stream_start, stream_end, document_start, block_mapping_start, block_sequence_start, block_entry, block_end, flow_sequence_start, flow_sequence_end, flow_mapping_start, flow_mapping_end, flow_entry}
use Rattle.defs_layout.specs.Layout.{empty_array, array, hash, alias}
use Rattle.proof_loads.proofs.LayoutTokens.Texts.{layouts_have_their_tokens}

abbrev word : String → Scalar
word w = plain (Tree.string (codes w))

-- a value after one space
abbrev after_space : Inline → Value
after_space i = Value.beside 0 i no_comment

abbrev token : Style → String → Tok
token s w = Tok.scalar s (codes w)

differ : (a b : Tree) → tree_eq a a ≡ true → tree_eq a b ≡ false → a ≢ b
differ a b same other e = true≢false (sym same ∙ ap (tree_eq a) e ∙ other)

-- arrays and hashes at many columns, an array as key, empty lines and comment lines between entries, a literal block with an empty line
each_form : HasToks (codes "---\n# top\n\n   ? - 1\n     - []\n# mid\n   :       - x\n           - |\n                 p\n\n                 q\n   k:\n# c\n     \"z\": {}\n")
    (stream_start ∷ document_start ∷ block_mapping_start ∷ Tok.key ∷ block_sequence_start ∷ block_entry ∷ token Style.plain "1"
    ∷ block_entry ∷ flow_sequence_start ∷ flow_sequence_end ∷ block_end ∷ Tok.value ∷ block_sequence_start ∷ block_entry
    ∷ token Style.plain "x" ∷ block_entry ∷ token Style.literal "p\n\nq\n" ∷ block_end ∷ Tok.key ∷ token Style.plain "k" ∷ Tok.value
    ∷ block_mapping_start ∷ Tok.key ∷ token Style.double_quoted "z" ∷ Tok.value ∷ flow_mapping_start ∷ flow_mapping_end ∷ block_end
    ∷ block_end ∷ stream_end ∷ [])
unfolding is_quoted is_unfit_for_plain typing is_decimal is_literal_text is_literal_character is_line_character digits written_character
each_form = layouts_have_their_tokens
    (record {
      is_marked = true;
      documents = last_document (record {
        gap = comment_line (codes " top") ∷ empty_line ∷ [];
        root = Root.block 3 (hash (field
            (explicit (compact 0 (array (entry (after_space (scalar (plain (Tree.integer (pos 1))))) [] (last_entry (after_space empty_array)))))
            (comment_line (codes " mid") ∷ [])
            (compact 6 (array (entry (after_space (scalar (word "x"))) []
            (last_entry (literal 0 17 (codes "p\n\nq\n") (full (codes "p") ∷ blank 0 ∷ full (codes "q") ∷ [])))))))
            []
            (last_field (implicit (word "k") (below no_comment (comment_line (codes " c") ∷ []) 5 (hash (last_field (implicit (quoted (codes "z")) (after_space empty_hash)))))))));
      }) (empty_line ∷ []);
    })
    (search (arith, differ))

-- an anchor before a block, a scalar and a literal block; a folded block and an empty line after it
each_anchor : HasToks (codes "---\na: &x\n  k: &y 'it''s'\nb: *x\nc: >-\n  p\n  q\n\n  r\n\nd: &z |\n  s\n  t\n")
    (stream_start ∷ document_start ∷ block_mapping_start ∷ Tok.key ∷ token Style.plain "a" ∷ Tok.value ∷ Tok.anchor (codes "x")
    ∷ block_mapping_start ∷ Tok.key ∷ token Style.plain "k" ∷ Tok.value ∷ Tok.anchor (codes "y") ∷ token Style.single_quoted "it's"
    ∷ block_end ∷ Tok.key ∷ token Style.plain "b" ∷ Tok.value ∷ Tok.alias (codes "x") ∷ Tok.key ∷ token Style.plain "c" ∷ Tok.value
    ∷ token Style.folded "p q\nr" ∷ Tok.key ∷ token Style.plain "d" ∷ Tok.value ∷ Tok.anchor (codes "z") ∷ token Style.literal "s\nt\n"
    ∷ block_end ∷ stream_end ∷ [])
unfolding is_quoted is_unfit_for_plain typing is_decimal is_line_character is_literal_text is_literal_character row_of is_empty_line is_content_line is_blank
each_anchor = layouts_have_their_tokens
    (record {
      is_marked = true;
      documents = last_document (record {
        gap = [];
        root = Root.block 0 (Block.hash
            (field (implicit (word "a") (anchored 0 (codes "x") (below no_comment [] 2 (Block.hash (last_field (implicit (word "k") (anchored 0 (codes "y") (beside 0 (scalar (single_quoted (codes "it's"))) no_comment)))))))) []
            (field (implicit (word "b") (alias 0 (codes "x") (Tree.hash (pairs_of ((Tree.string (codes "k"), Tree.string (codes "it's")) ∷ []))))) []
            (field (implicit (word "c") (folded 0 2 true (codes "p q\nr") (full (codes "p") ∷ full (codes "q") ∷ blank 0 ∷ full (codes "r") ∷ []))) (empty_line ∷ [])
            (last_field (implicit (word "d") (anchored 0 (codes "z") (literal 0 2 (codes "s\nt\n") (full (codes "s") ∷ full (codes "t") ∷ [])))))))));
      }) (empty_line ∷ []);
    })
    (search (arith, differ, true≢false))

-- a block after the `:` of a key, on its line
compact_value : scan 9 (codes "---\na: - 1") ≡ Err (At Problem.BlockEntryNotAllowed (record { index = 7; line = 2; col = 3 }))
unfolding scan_on_literals
compact_value = refl

-- ---- JSON arrays and objects after each mark of a block collection

-- `[1, {"a": [true, "x"]}]`
abbrev nested : Json
nested = Json.array [] (Elements.element (Json.number (number false (codes "1") no_fraction no_exponent)) [] (Blank.space ∷ [])
    (Elements.last_element (Json.object [] (Members.last_member (itself 97 ∷ []) [] (Blank.space ∷ [])
    (Json.array [] (Elements.element Json.true_word [] (Blank.space ∷ []) (Elements.last_element (Json.string (itself 120 ∷ [])) []))) [])) []))

-- `{"b" : null }`
abbrev spaced : Json
spaced = Json.object [] (Members.last_member (itself 98 ∷ []) (Blank.space ∷ []) (Blank.space ∷ []) Json.null_word (Blank.space ∷ []))

-- `[-1.5e+3, {}]`
abbrev numbered : Json
numbered = Json.array [] (Elements.element (Json.number (number true (codes "1") (fraction (codes "5")) (exponent false plus (codes "3")))) [] (Blank.space ∷ [])
    (Elements.last_element (Json.empty_object []) []))

-- after `-`, after `?` and the `:` below it, and after the `:` of a key at the end of the text
after_each_mark : HasToks (codes "- [1, {\"a\": [true, \"x\"]}]\n- ? {\"b\" : null }\n  :  [ ]\n- k: [-1.5e+3, {}]")
    (stream_start ∷ block_sequence_start ∷ block_entry ∷ flow_sequence_start ∷ token Style.plain "1" ∷ flow_entry ∷ flow_mapping_start
    ∷ Tok.key ∷ token Style.double_quoted "a" ∷ Tok.value ∷ flow_sequence_start ∷ token Style.plain "true" ∷ flow_entry
    ∷ token Style.double_quoted "x" ∷ flow_sequence_end ∷ flow_mapping_end ∷ flow_sequence_end ∷ block_entry ∷ block_mapping_start
    ∷ Tok.key ∷ flow_mapping_start ∷ Tok.key ∷ token Style.double_quoted "b" ∷ Tok.value ∷ token Style.plain "null" ∷ flow_mapping_end
    ∷ Tok.value ∷ flow_sequence_start ∷ flow_sequence_end ∷ block_end ∷ block_entry ∷ block_mapping_start ∷ Tok.key
    ∷ token Style.plain "k" ∷ Tok.value ∷ flow_sequence_start ∷ token Style.plain "-1.5e+3" ∷ flow_entry ∷ flow_mapping_start
    ∷ flow_mapping_end ∷ flow_sequence_end ∷ block_end ∷ block_end ∷ stream_end ∷ [])
unfolding is_quoted is_unfit_for_plain typing is_decimal digits is_unescaped is_on_one_line
after_each_mark = layouts_have_their_tokens
    (record {
      is_marked = false;
      documents = last_document (record {
        gap = [];
        root = Root.block 0 (Block.array (entry (json 0 nested) []
            (entry (compact 0 (Block.hash (last_field (explicit (json 0 spaced) [] (json 1 (Json.empty_array (Blank.space ∷ []))))))) []
            (last_entry (compact 0 (Block.hash (last_field (implicit (word "k") (json 0 numbered)))))))));
      }) [];
    })
    (search arith)
