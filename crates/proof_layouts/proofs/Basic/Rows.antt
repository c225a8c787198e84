-- Basic layouts, their events and what these are read as, computed.
use Rattle.std.specs.Fmt.{digits}
use Rattle.proof_layouts.proofs.Common.{[], basic_documents, below, Block, codes, Entries, Err, Ev, Field, Fields, full, Inline, is_decimal, is_quoted, is_unfit_for_plain, IsBasic, items_of, last_document, Layout, List, nested_stream, no_comment, None, Ok, pairs_of, pos, reading, Result, Root, Scalar, spell, Style, Tree, true, typing, Value, written_character, ◌∷◌, ◌≡◌}

abbrev text_of : Tree → Inline
text_of t = Inline.scalar (Scalar.plain t)

-- a value after one space
abbrev beside : Inline → Value
beside i = Value.beside 0 i no_comment

-- a document without gaps, whose root is a block at column 0
abbrev plainly : Block → Layout
plainly b = record { is_marked = true; documents = last_document (record { gap = []; root = Root.block 0 b }) [] }

-- a basic layout, and what its document is read as
record IsReadAs (w : Layout) (trees : Result (List Tree) Tree) : Type 0 where
  basic : IsBasic w
  read : reading (basic_documents w basic) ≡ trees

-- `---`, `"k":`, `  - ~`, `  - []`
abbrev list_below : Layout
list_below =
    plainly (Block.hash (Fields.last_field (Field.implicit (Scalar.quoted (codes "k"))
    (below no_comment [] 2 (Block.array (Entries.entry (beside (text_of Tree.null)) [] (Entries.last_entry (beside Inline.empty_array))))))))

-- `---`, `? - 12`, `: |-`, `  12`: the key's is a number, the literal block is a string
abbrev key_of_lines : Layout
key_of_lines =
    plainly (Block.hash (Fields.last_field (Field.explicit
    (Value.compact 0 (Block.array (Entries.last_entry (beside (text_of (Tree.integer (pos 12)))))))
    [] (Value.literal 0 2 (codes "12") (full (codes "12") ∷ [])))))

-- `---`, `"a": 1`, `a: 2`: the keys are one
abbrev repeated : Layout
repeated =
    plainly (Block.hash (Fields.field (Field.implicit (Scalar.quoted (codes "a")) (beside (text_of (Tree.integer (pos 1))))) []
    (Fields.last_field (Field.implicit (Scalar.plain (Tree.string (codes "a"))) (beside (text_of (Tree.integer (pos 2))))))))

-- `---`, `- true`, spelt as a real that is none: it is read as a boolean
abbrev unquoted : Layout
unquoted =
    plainly (Block.array (Entries.last_entry (beside (text_of (Tree.real (codes "true"))))))

record Rows : Type 0 where
  list_below_text : spell list_below [] ≡ codes "---\n\"k\":\n  - ~\n  - []"
  list_below_read : IsReadAs list_below (Ok (Tree.hash (pairs_of (
      (Tree.string (codes "k"), Tree.array (items_of (Tree.null ∷ Tree.array (items_of []) ∷ []))) ∷ [])) ∷ []))
  list_below_events : nested_stream (basic_documents list_below list_below_read.basic) ≡
      Ev.stream_start ∷ Ev.document_start ∷ Ev.mapping_start 0 None ∷ Ev.scalar (codes "k") Style.double_quoted 0 None
      ∷ Ev.sequence_start 0 None ∷ Ev.scalar (codes "~") Style.plain 0 None ∷ Ev.sequence_start 0 None ∷ Ev.sequence_end ∷ Ev.sequence_end
      ∷ Ev.mapping_end ∷ Ev.document_end ∷ Ev.stream_end ∷ []
  key_of_lines_text : spell key_of_lines [] ≡ codes "---\n? - 12\n: |-\n  12"
  key_of_lines_read : IsReadAs key_of_lines (Ok (Tree.hash (pairs_of (
      (Tree.array (items_of (Tree.integer (pos 12) ∷ [])), Tree.string (codes "12")) ∷ [])) ∷ []))
  repeated_read : IsReadAs repeated (Err (Tree.string (codes "a")))
  unquoted_read : IsReadAs unquoted (Ok (Tree.array (items_of (Tree.boolean true ∷ [])) ∷ []))

rows : Rows
unfolding typing is_decimal is_quoted is_unfit_for_plain written_character digits
rows = search
