-- The tokens of texts that are known as what was written, computed.
use Prim.Native.String.{String}
use Rattle.defs_token.specs.Token.{Tok, Style, stream_start, stream_end, document_start, block_mapping_start, block_sequence_start, block_entry, block_end, flow_mapping_start, flow_mapping_end, flow_sequence_start, flow_sequence_end, flow_entry, key, value}
use Rattle.defs_layout.specs.JsonTokens.{json_text_tokens}
use Rattle.defs_layout.specs.LayoutTokens.{layout_tokens}
use Rattle.defs_layout.specs.QuotedText.{single, double, HasQuotedTokens}
use Rattle.defs_layout.proofs.Common.{[], anchored, are_marks, array, at_key, below, Block, codes, compact, document, Document, element, entry, explicit, false, hash, implicit, inline, is_blank, is_break, is_nul, itself, Json, last_document, last_element, last_entry, last_field, last_member, no_comment, plain, quoted, refl, Root, scalar, single_quoted, Tree, true, Value, ◌∷◌, ◌≡◌}
use Rattle.defs_text.specs.FlowScalar.{plain_element, single_quoted_element, double_quoted_element, is_character_code, numeric_escape, escape, begins_with_marker, single_quoted_value, double_quoted_value}
use Rattle.defs_tree.proofs.TreeWords.{text}
use Rattle.defs_layout.proofs.RowWords.{one, line, empty}

-- a scalar of a style and a text
abbrev token : Style → String → Tok
token s t = Tok.scalar s (codes t)

-- a document without a gap, whose root is a block at column 0
abbrev plainly : Block → Document
plainly b = record { gap = []; root = Root.block 0 b }

record Rows : Type 0 where
  -- `{"a":[true,{}]}`
  object : json_text_tokens (record {
    before = [];
    value = Json.object []
        (last_member (itself 97 ∷ []) [] [] (Json.array [] (element Json.true_word [] [] (last_element (Json.empty_object []) []))) []);
    after = [];
  })
      ≡ stream_start ∷ flow_mapping_start ∷ key ∷ token Style.double_quoted "a" ∷ value
      ∷ flow_sequence_start ∷ token Style.plain "true" ∷ flow_entry ∷ flow_mapping_start ∷ flow_mapping_end ∷ flow_sequence_end
      ∷ flow_mapping_end ∷ stream_end ∷ []
  -- `---`, `"k":`, `  - ~`, `  - []`
  nested : layout_tokens (record {
    is_marked = true;
    documents = last_document (plainly (hash (last_field (implicit (quoted (codes "k"))
        (below no_comment [] 2 (array (entry (one (plain Tree.null)) [] (last_entry empty)))))))) [];
  })
      ≡ stream_start ∷ document_start ∷ block_mapping_start ∷ key ∷ token Style.double_quoted "k" ∷ value
      ∷ block_sequence_start ∷ block_entry ∷ token Style.plain "~" ∷ block_entry ∷ flow_sequence_start ∷ flow_sequence_end ∷ block_end
      ∷ block_end ∷ stream_end ∷ []
  -- `---`, `? - a`, `: |-`, `  b`
  key_of_lines : layout_tokens (record {
    is_marked = true;
    documents = last_document (plainly (hash (last_field (explicit (compact 0 (array (last_entry (one (quoted (codes "a"))))))
        [] (Value.literal 0 2 (codes "b") (line "b" ∷ [])))))) [];
  })
      ≡ stream_start ∷ document_start ∷ block_mapping_start ∷ key ∷ block_sequence_start ∷ block_entry ∷ token Style.double_quoted "a"
      ∷ block_end
      ∷ value ∷ token Style.literal "b" ∷ block_end ∷ stream_end ∷ []
  -- `"k":`, `- &n 'x'`, `- *n`, and a second document `~`
  wide : layout_tokens (record {
    is_marked = false;
    documents = document (plainly (hash (last_field (implicit (quoted (codes "k")) (at_key no_comment []
        (entry (anchored 0 (codes "n") (one (single_quoted (codes "x")))) [] (last_entry (Value.alias 0 (codes "n") (text "x"))))))))) []
        (last_document (record { gap = []; root = inline (scalar (plain Tree.null)) }) []);
  })
      ≡ stream_start ∷ block_mapping_start ∷ key ∷ token Style.double_quoted "k" ∷ value ∷ block_entry ∷ Tok.anchor (codes "n")
      ∷ token Style.single_quoted "x"
      ∷ block_entry ∷ Tok.alias (codes "n") ∷ block_end ∷ document_start ∷ token Style.plain "~" ∷ stream_end ∷ []

rows : Rows
rows = search

-- `'it''s'` and two line feeds
single_quotes : HasQuotedTokens (codes "'it''s'\n\n") (stream_start ∷ token Style.single_quoted "it's" ∷ stream_end ∷ [])
unfolding is_blank is_break is_nul are_marks plain_element single_quoted_element begins_with_marker single_quoted_value
single_quotes = (record { quotes = single; body = codes "it''s"; breaks = 2 }, codes "it's", refl, refl, refl)

-- `"a`, an escaped break, ` b"`
quoted_over_lines : HasQuotedTokens (codes "\"a\\\n b\"") (stream_start ∷ token Style.double_quoted "ab" ∷ stream_end ∷ [])
unfolding is_blank is_break is_nul are_marks plain_element double_quoted_element is_character_code numeric_escape escape begins_with_marker double_quoted_value
quoted_over_lines = (record { quotes = double; body = codes "a\\\n b"; breaks = 0 }, codes "ab", refl, refl, refl)
