-- Basic layouts: one document after its `---`, whose scalars are plain, in double quotes or literal blocks. Comments stand on lines of
-- their own. There is no anchor, no alias, no folded block, no JSON collection, and no array at its key's column.
-- Each text that `dump` writes is one.
use Rattle.std.specs.Prelude.{◌≡◌, ℕ, List, [], ◌∷◌, true}
use Rattle.defs_tree.specs.Tree.{Tree}
use Rattle.defs_layout.specs.Layout.{Scalar, single_quoted, Inline, scalar, Comment, no_comment, comment, Block, array, hash, Value, Entries, last_entry, entry, Field, implicit, explicit, Fields, last_field, field, Root, Documents, last_document, document, Layout, IsLayout, spell, trees_of}

-- plain, or in double quotes
abbrev pub IsBasicScalar : Scalar → Type 0
IsBasicScalar (single_quoted text) = ⊥
IsBasicScalar _ = Unit {0}

-- what stands on one line
abbrev pub IsBasicInline : Inline → Type 0
IsBasicInline (scalar s) = IsBasicScalar s
IsBasicInline _ = Unit {0}

-- no comment stands on the line
abbrev pub IsNoComment : Comment → Type 0
IsNoComment no_comment = Unit {0}
IsNoComment (comment more text) = ⊥

abbrev mutual
  -- a block
  pub IsBasicBlock : Block → Type 0
  IsBasicBlock (array es) = AreBasicEntries es
  IsBasicBlock (hash fs) = AreBasicFields fs

  -- a value
  pub IsBasicValue : Value → Type 0
  IsBasicValue (Value.beside more i after) = IsBasicInline i × IsNoComment after
  IsBasicValue (Value.literal more column text ls) = Unit {0}
  IsBasicValue (Value.compact more b) = IsBasicBlock b
  IsBasicValue (Value.below after g column b) = IsNoComment after × IsBasicBlock b
  IsBasicValue _ = ⊥

  -- the entries of an array
  pub AreBasicEntries : Entries → Type 0
  AreBasicEntries (last_entry v) = IsBasicValue v
  AreBasicEntries (entry v g es) = IsBasicValue v × AreBasicEntries es

  -- an entry of a hash
  pub IsBasicField : Field → Type 0
  IsBasicField (implicit k v) = IsBasicScalar k × IsBasicValue v
  IsBasicField (explicit k g v) = IsBasicValue k × IsBasicValue v

  -- the entries of a hash
  pub AreBasicFields : Fields → Type 0
  AreBasicFields (last_field f) = IsBasicField f
  AreBasicFields (field f g fs) = IsBasicField f × AreBasicFields fs

-- the root of a document
abbrev pub IsBasicRoot : Root → Type 0
IsBasicRoot (Root.block column b) = IsBasicBlock b
IsBasicRoot (Root.inline i) = IsBasicInline i
IsBasicRoot (Root.literal text ls) = Unit {0}

-- one document
abbrev pub AreBasicDocuments : Documents → Type 0
AreBasicDocuments (last_document d after) = IsBasicRoot d.root
AreBasicDocuments (document d g ds) = ⊥

-- the whole text
abbrev pub IsBasic : Layout → Type 0
IsBasic w = (w.is_marked ≡ true) × AreBasicDocuments w.documents

-- the tree is laid out as the text
abbrev pub IsBasicLayout : Tree → List ℕ → Type 0
IsBasicLayout tree text = (w : Layout) × IsLayout w × IsBasic w × (spell w [] ≡ text) × (trees_of w.documents ≡ tree ∷ [])
