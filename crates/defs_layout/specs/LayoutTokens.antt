-- The tokens of layouts. YAML 1.2, sections 6.9.2, 7.1, 7.3, 7.4, 8.1, 8.2 and 9.1 to 9.2.
-- An array's entries stand between the start and the end of a block sequence, each after a `BlockEntry`; a hash's between the start
-- and the end of a block mapping, a `Key` before each key and a `Value` before each value. `[]` and `{}` are flow tokens.
-- An anchor stands before its node, and an alias is a token of its own. An array at its key's column has no start and no end. A first
-- document without `---` has no token for the marker; each further document has one.
use Rattle.std.specs.Prelude.{List, [], ◌∷◌, Bool, true, false}
use Rattle.defs_token.specs.Token.{Tok, Style}
use Rattle.defs_tree.specs.Spelling.{spelling}
use Rattle.defs_layout.specs.Layout.{Scalar, Inline, Block, Value, Entries, Field, Fields, Root, Documents, Layout}
use Rattle.defs_layout.specs.JsonTokens.{json_tokens}

-- a scalar: its style and its text
abbrev pub scalar_token : Scalar → Tok
scalar_token (Scalar.plain t) = Tok.scalar Style.plain (spelling t)
scalar_token (Scalar.quoted text) = Tok.scalar Style.double_quoted text
scalar_token (Scalar.single_quoted text) = Tok.scalar Style.single_quoted text

-- what stands on one line, before the tokens r
abbrev pub inline_tokens : Inline → List Tok → List Tok
inline_tokens (Inline.scalar s) r = scalar_token s ∷ r
inline_tokens Inline.empty_array r = Tok.flow_sequence_start ∷ Tok.flow_sequence_end ∷ r
inline_tokens Inline.empty_hash r = Tok.flow_mapping_start ∷ Tok.flow_mapping_end ∷ r

abbrev mutual
  pub block_tokens : Block → List Tok → List Tok
  block_tokens (Block.array es) r = Tok.block_sequence_start ∷ entry_tokens es (Tok.block_end ∷ r)
  block_tokens (Block.hash fs) r = Tok.block_mapping_start ∷ all_field_tokens fs (Tok.block_end ∷ r)

  pub value_tokens : Value → List Tok → List Tok
  value_tokens (Value.beside more i after) r = inline_tokens i r
  value_tokens (Value.literal more column text ls) r = Tok.scalar Style.literal text ∷ r
  value_tokens (Value.folded more column strips text ls) r = Tok.scalar Style.folded text ∷ r
  value_tokens (Value.json more v) r = json_tokens v r
  value_tokens (Value.compact more b) r = block_tokens b r
  value_tokens (Value.below after g column b) r = block_tokens b r
  value_tokens (Value.at_key after g es) r = entry_tokens es r
  value_tokens (Value.anchored more name v) r = Tok.anchor name ∷ value_tokens v r
  value_tokens (Value.alias more name t) r = Tok.alias name ∷ r

  -- the entries of an array
  pub entry_tokens : Entries → List Tok → List Tok
  entry_tokens (Entries.last_entry v) r = Tok.block_entry ∷ value_tokens v r
  entry_tokens (Entries.entry v g es) r = Tok.block_entry ∷ value_tokens v (entry_tokens es r)

  -- an entry of a hash
  pub field_tokens : Field → List Tok → List Tok
  field_tokens (Field.implicit k v) r = Tok.key ∷ scalar_token k ∷ Tok.value ∷ value_tokens v r
  field_tokens (Field.explicit k g v) r = Tok.key ∷ value_tokens k (Tok.value ∷ value_tokens v r)

  -- the entries of a hash
  pub all_field_tokens : Fields → List Tok → List Tok
  all_field_tokens (Fields.last_field f) r = field_tokens f r
  all_field_tokens (Fields.field f g fs) r = field_tokens f (all_field_tokens fs r)

-- the root of a document
abbrev pub root_tokens : Root → List Tok → List Tok
root_tokens (Root.block column b) r = block_tokens b r
root_tokens (Root.inline i) r = inline_tokens i r
root_tokens (Root.literal text ls) r = Tok.scalar Style.literal text ∷ r

-- the documents, with a marker before each but the first
abbrev pub documents_tokens : Documents → List Tok
documents_tokens (Documents.last_document d after) = root_tokens d.root (Tok.stream_end ∷ [])
documents_tokens (Documents.document d g ds) = root_tokens d.root (Tok.document_start ∷ documents_tokens ds)

-- a marker, where it is written
abbrev pub marked : (is_marked : Bool) → List Tok → List Tok
marked true r = Tok.document_start ∷ r
marked false r = r

-- the whole text
abbrev pub layout_tokens : Layout → List Tok
layout_tokens w = Tok.stream_start ∷ marked w.is_marked (documents_tokens w.documents)
