-- The nested events of a basic layout: scalars are plain, double-quoted or literal, as they are written; nothing has an anchor or a tag.
-- YAML 1.2, sections 3.1, 7.3, 8.1 and 8.2.
use Rattle.std.specs.Prelude.{List, [], ◌∷◌, None}
use Rattle.defs_token.specs.Token.{Style}
use Rattle.defs_tree.specs.Spelling.{spelling}
use Rattle.defs_layout.specs.Layout.{Scalar, Inline, Block, Value, Entries, Field, Fields, Root, Documents, Layout}
use Rattle.defs_layout.specs.Basic.{IsBasicScalar, IsBasicInline, IsBasicBlock, IsBasicValue, AreBasicEntries, IsBasicField, AreBasicFields, IsBasicRoot, AreBasicDocuments, IsBasic}
use Rattle.defs_event.specs.Nested.{Nest, nested_scalar, nested_sequence, nested_mapping, Nests, no_nests, nest, NestPairs, no_nest_pairs, nest_pair, NestedDocument, with_node}

-- a scalar
abbrev pub scalar_nest : (s : Scalar) → IsBasicScalar s → Nest
scalar_nest (Scalar.plain t) is = nested_scalar (spelling t) Style.plain 0 None
scalar_nest (Scalar.quoted text) is = nested_scalar text Style.double_quoted 0 None
scalar_nest (Scalar.single_quoted text) is = absurd is

-- what stands on one line
abbrev pub inline_nest : (i : Inline) → IsBasicInline i → Nest
inline_nest (Inline.scalar s) is = scalar_nest s is
inline_nest Inline.empty_array is = nested_sequence 0 None no_nests
inline_nest Inline.empty_hash is = nested_mapping 0 None no_nest_pairs

abbrev mutual
  pub block_nest : (b : Block) → IsBasicBlock b → Nest
  block_nest (Block.array es) is = nested_sequence 0 None (entry_nests es is)
  block_nest (Block.hash fs) is = nested_mapping 0 None (all_field_nests fs is)

  pub value_nest : (v : Value) → IsBasicValue v → Nest
  value_nest (Value.beside more i after) is = inline_nest i is.0
  value_nest (Value.literal more column text ls) is = nested_scalar text Style.literal 0 None
  value_nest (Value.compact more b) is = block_nest b is
  value_nest (Value.below after g column b) is = block_nest b is.1
  value_nest (Value.folded more column strips text ls) is = absurd is
  value_nest (Value.json more v) is = absurd is
  value_nest (Value.at_key after g es) is = absurd is
  value_nest (Value.anchored more name v) is = absurd is
  value_nest (Value.alias more name t) is = absurd is

  -- the entries of an array
  pub entry_nests : (es : Entries) → AreBasicEntries es → Nests
  entry_nests (Entries.last_entry v) are = nest (value_nest v are) no_nests
  entry_nests (Entries.entry v g es) are = nest (value_nest v are.0) (entry_nests es are.1)

  -- an entry of a hash, before others
  pub field_nests : (f : Field) → IsBasicField f → NestPairs → NestPairs
  field_nests (Field.implicit k v) is ps = nest_pair (scalar_nest k is.0) (value_nest v is.1) ps
  field_nests (Field.explicit k g v) is ps = nest_pair (value_nest k is.0) (value_nest v is.1) ps

  -- the entries of a hash
  pub all_field_nests : (fs : Fields) → AreBasicFields fs → NestPairs
  all_field_nests (Fields.last_field f) are = field_nests f are no_nest_pairs
  all_field_nests (Fields.field f g fs) are = field_nests f are.0 (all_field_nests fs are.1)

-- the root of a document
abbrev pub root_nest : (x : Root) → IsBasicRoot x → Nest
root_nest (Root.block column b) is = block_nest b is
root_nest (Root.inline i) is = inline_nest i is
root_nest (Root.literal text ls) is = nested_scalar text Style.literal 0 None

-- the one document
abbrev pub document_nest : (ds : Documents) → AreBasicDocuments ds → Nest
document_nest (Documents.last_document d after) are = root_nest d.root are
document_nest (Documents.document d g ds) are = absurd are

-- the whole text
abbrev pub basic_documents : (w : Layout) → IsBasic w → List NestedDocument
basic_documents w is = with_node (document_nest w.documents is.1) ∷ []
