-- Trees laid out in lines: block arrays and hashes at any columns, scalars on one line, literal and folded blocks, gaps of empty and
-- comment lines between the entries, JSON arrays and objects on one line, arrays at the column of the key that they are the value of,
-- comments after values on their line, anchors and aliases, and one document or several. The first document may lack its `---`.
-- What was written is kept: columns, spaces, gaps and comments.
-- YAML 1.2, chapters 6 (indentation, comments, anchors), 7 (scalars on one line, flow collections, aliases), 8 (block styles) and 9 (streams).
use Rattle.std.specs.Prelude.{◌≡◌, ℕ, ◌+◌, ◌<◌, ◌≤◌, List, [], ◌∷◌, ◌++◌, Bool, true, false, not, ◌||◌, ◌==◌, Some, None, if◌then◌else◌, map, flat_map, length, codes}
use Rattle.std.specs.List.{list_all}
use Rattle.defs_tree.specs.Tree.{Tree, Items, Pairs, pairs_of}
use Rattle.defs_tree.specs.Pairs.{AreDistinct}
use Rattle.defs_tree.specs.Typing.{fits_i64, is_real_text}
use Rattle.defs_tree.specs.Quoting.{is_quoted}
use Rattle.defs_tree.specs.Escapes.{double_quoted}
use Rattle.defs_tree.specs.Spelling.{spelling}
use Rattle.defs_tree.specs.Lines.{lines_of}
use Rattle.defs_tree.specs.Literal.{is_literal_text, is_root_literal, literal_header}
use Rattle.defs_text.specs.BlockScalar.{BlockStyle, Chomping, Header, Body, Ending, block_value}
use Rattle.defs_layout.specs.Marks.{ampersand, asterisk, carriage_return, colon, dash, line_feed, number_sign, question_mark, single_quote, space, tab}
use Rattle.defs_layout.specs.Gap.{spaces, GapLine, spell_gap, next_line, spell_ending, IsLineText, IsGap, AreEmptyLines}
use Rattle.defs_layout.specs.BlockLines.{Line, full, blank, contents, spell_line, spell_lines, AreLines}
use Rattle.defs_layout.specs.Json.{Json, IsJson, levels}
use Rattle.defs_layout.specs.Json
use Rattle.defs_layout.specs.Anchored.{Anchor, begun, with_end, last_tree, is_name}

-- ---- what was written

-- a scalar by its spelling, where a string stands without quotes; or a string in double or in single quotes
pub data Scalar : Type 0 where
  plain : Tree → Scalar
  quoted : (text : List ℕ) → Scalar
  single_quoted : (text : List ℕ) → Scalar

-- what stands on one line: a scalar, `[]` or `{}`
pub data Inline : Type 0 where
  scalar : Scalar → Inline
  empty_array : Inline
  empty_hash : Inline

-- A comment on the line of a value, or no comment. One space stands before it, and `more` further spaces.
pub data Comment : Type 0 where
  no_comment : Comment
  comment : (more : ℕ) → (text : List ℕ) → Comment

mutual
  -- a non-empty array or hash
  pub data Block : Type 0 where
    array : Entries → Block
    hash : Fields → Block

  -- What stands after `-`, `?` or `:`. One space stands before it, and `more` further spaces. An alias keeps the tree that it
  -- stands for.
  pub data Value : Type 0 where
    -- a scalar, `[]` or `{}` on the same line
    beside : (more : ℕ) → Inline → Comment → Value
    -- the header of a literal or folded block, and its lines at a column
    literal : (more column : ℕ) → (text : List ℕ) → List Line → Value
    folded : (more column : ℕ) → (strips : Bool) → (text : List ℕ) → List Line → Value
    -- a JSON array or object on the same line
    json : (more : ℕ) → Json → Value
    -- a block that begins on the same line
    compact : (more : ℕ) → Block → Value
    -- a gap, and a block at a column
    below : Comment → List GapLine → (column : ℕ) → Block → Value
    -- a gap, and the entries of an array at the column of the key whose value it is
    at_key : Comment → List GapLine → Entries → Value
    -- `&` and a name before another value
    anchored : (more : ℕ) → (name : List ℕ) → Value → Value
    -- `*` and a name
    alias : (more : ℕ) → (name : List ℕ) → Tree → Value

  -- the entries of an array, and the gaps between them
  pub data Entries : Type 0 where
    last_entry : Value → Entries
    entry : Value → List GapLine → Entries → Entries

  -- an entry of a hash: a scalar as key, `:` and a value; or `?` and a key, a gap, and `:` and a value on a line of their own
  pub data Field : Type 0 where
    implicit : Scalar → Value → Field
    explicit : (key : Value) → List GapLine → Value → Field

  -- the entries of a hash, and the gaps between them
  pub data Fields : Type 0 where
    last_field : Field → Fields
    field : Field → List GapLine → Fields → Fields

-- the root of a document: a block at a column; or at column 0 what stands on one line, or a literal block
pub data Root : Type 0 where
  block : (column : ℕ) → Block → Root
  inline : Inline → Root
  literal : (text : List ℕ) → List Line → Root

-- a document without its `---`: a gap and the root
pub record Document : Type 0 where
  pub gap : List GapLine
  pub root : Root

-- one document or more; after each but the last an LF and a gap, and then the `---` of the next
pub data Documents : Type 0 where
  last_document : Document → (after : List GapLine) → Documents
  document : Document → List GapLine → Documents → Documents

-- a whole text; its first `---` may be missing
pub record Layout : Type 0 where
  pub is_marked : Bool
  pub documents : Documents

-- ---- the text, before the rest r; a collection's entries stand at the column c

-- a single quote is written as two
abbrev pub doubled : ℕ → List ℕ
doubled c = if c == single_quote then single_quote ∷ single_quote ∷ [] else c ∷ []

-- a scalar
abbrev pub spell_scalar : Scalar → List ℕ → List ℕ
spell_scalar (plain t) r = spelling t ++ r
spell_scalar (quoted text) r = double_quoted text ++ r
spell_scalar (single_quoted text) r = single_quote ∷ (flat_map doubled text ++ single_quote ∷ r)

-- what stands on one line
abbrev pub spell_inline : Inline → List ℕ → List ℕ
spell_inline (scalar s) r = spell_scalar s r
spell_inline empty_array r = codes "[]" ++ r
spell_inline empty_hash r = codes "{}" ++ r

-- a literal block: its header, and its lines at a column
abbrev pub spell_literal : (column : ℕ) → (text : List ℕ) → List Line → List ℕ → List ℕ
spell_literal column text ls r = literal_header text ++ spell_lines column ls r

-- spaces, `#` and a text
abbrev pub spell_comment : Comment → List ℕ → List ℕ
spell_comment no_comment r = r
spell_comment (comment more text) r = space ∷ spaces more (number_sign ∷ (text ++ r))

-- `>-` strips the last break, `>` keeps one
abbrev pub folded_header : (strips : Bool) → List ℕ
folded_header true = codes ">-"
folded_header false = codes ">"

abbrev mutual
  -- a block whose entries stand at the column c
  pub spell_block : (c : ℕ) → Block → List ℕ → List ℕ
  spell_block c (array es) r = spell_entries c es r
  spell_block c (hash fs) r = spell_fields c fs r

  -- a value after a mark at the column c: a compact block begins after the mark and the spaces
  pub spell_value : (c : ℕ) → Value → List ℕ → List ℕ
  spell_value c (beside more i after) r = space ∷ spaces more (spell_inline i (spell_comment after r))
  spell_value c (literal more column text ls) r = space ∷ spaces more (spell_literal column text ls r)
  spell_value c (folded more column strips text ls) r = space ∷ spaces more (folded_header strips ++ spell_lines column ls r)
  spell_value c (json more v) r = space ∷ spaces more (Json.spell v r)
  spell_value c (compact more b) r = space ∷ spaces more (spell_block (c + 2 + more) b r)
  spell_value c (below after g column b) r = spell_comment after (next_line column g (spell_block column b r))
  spell_value c (at_key after g es) r = spell_comment after (next_line c g (spell_entries c es r))
  spell_value c (anchored more name v) r = space ∷ spaces more (ampersand ∷ (name ++ spell_value c v r))
  spell_value c (alias more name t) r = space ∷ spaces more (asterisk ∷ (name ++ r))

  -- `-` and a value, and below it the next entry
  pub spell_entries : (c : ℕ) → Entries → List ℕ → List ℕ
  spell_entries c (last_entry v) r = dash ∷ spell_value c v r
  spell_entries c (entry v g es) r = dash ∷ spell_value c v (next_line c g (spell_entries c es r))

  -- a key, `:` and a value; or `?` and a key, and below it `:` and a value
  pub spell_field : (c : ℕ) → Field → List ℕ → List ℕ
  spell_field c (implicit k v) r = spell_scalar k (colon ∷ spell_value c v r)
  spell_field c (explicit k g v) r = question_mark ∷ spell_value c k (next_line c g (colon ∷ spell_value c v r))

  -- an entry, and below it the next
  pub spell_fields : (c : ℕ) → Fields → List ℕ → List ℕ
  spell_fields c (last_field f) r = spell_field c f r
  spell_fields c (field f g fs) r = spell_field c f (next_line c g (spell_fields c fs r))

-- a block after its column's spaces, and all else at column 0
abbrev pub spell_root : Root → List ℕ → List ℕ
spell_root (block column b) r = spaces column (spell_block column b r)
spell_root (inline i) r = spell_inline i r
spell_root (literal text ls) r = spell_literal 0 text ls r

-- a gap and the root
abbrev pub spell_document : Document → List ℕ → List ℕ
spell_document d r = spell_gap d.gap (spell_root d.root r)

-- each document but the first after an LF, a gap and its `---`
abbrev pub spell_documents : Documents → List ℕ → List ℕ
spell_documents (last_document d after) r = spell_document d (spell_ending after r)
spell_documents (document d g ds) r = spell_document d (line_feed ∷ spell_gap g (codes "---\n" ++ spell_documents ds r))

-- the first `---`, where it is written
abbrev pub spell_mark : (is_marked : Bool) → List ℕ → List ℕ
spell_mark true r = codes "---\n" ++ r
spell_mark false r = r

-- the whole text
abbrev pub spell : Layout → List ℕ → List ℕ
spell w r = spell_mark w.is_marked (spell_documents w.documents r)

-- ---- the trees

-- of a scalar
abbrev pub scalar_tree : Scalar → Tree
scalar_tree (plain t) = t
scalar_tree (quoted text) = Tree.string text
scalar_tree (single_quoted text) = Tree.string text

-- of what stands on one line
abbrev pub inline_tree : Inline → Tree
inline_tree (scalar s) = scalar_tree s
inline_tree empty_array = Tree.array Items.no_items
inline_tree empty_hash = Tree.hash Pairs.no_pairs

abbrev mutual
  -- of a block
  pub block_tree : Block → Tree
  block_tree (array es) = Tree.array (items es)
  block_tree (hash fs) = Tree.hash (pairs_of (pair_list fs))

  -- of a value; of an alias the tree that it keeps
  pub value_tree : Value → Tree
  value_tree (beside more i after) = inline_tree i
  value_tree (literal more column text ls) = Tree.string text
  value_tree (folded more column strips text ls) = Tree.string text
  value_tree (json more v) = Json.tree_of v
  value_tree (compact more b) = block_tree b
  value_tree (below after g column b) = block_tree b
  value_tree (at_key after g es) = Tree.array (items es)
  value_tree (anchored more name v) = value_tree v
  value_tree (alias more name t) = t

  -- an array's items
  pub items : Entries → Items
  items (last_entry v) = Items.item (value_tree v) Items.no_items
  items (entry v g es) = Items.item (value_tree v) (items es)

  -- an entry's key and value
  pub pair_of : Field → Tree × Tree
  pair_of (implicit k v) = (scalar_tree k, value_tree v)
  pair_of (explicit k g v) = (value_tree k, value_tree v)

  -- a hash's pairs in order
  pub pair_list : Fields → List (Tree × Tree)
  pair_list (last_field f) = pair_of f ∷ []
  pair_list (field f g fs) = pair_of f ∷ pair_list fs

-- of the root
abbrev pub root_tree : Root → Tree
root_tree (block column b) = block_tree b
root_tree (inline i) = inline_tree i
root_tree (literal text ls) = Tree.string text

-- of each document
abbrev pub trees_of : Documents → List Tree
trees_of (last_document d after) = root_tree d.root ∷ []
trees_of (document d g ds) = root_tree d.root ∷ trees_of ds

-- ---- the anchors after a part, from those before it

abbrev mutual
  -- after a block
  pub anchors_after_block : Block → List Anchor → List Anchor
  anchors_after_block (array es) a = anchors_after_entries es a
  anchors_after_block (hash fs) a = anchors_after_fields fs a

  -- after a value; an anchor begins before its node, and ends with the tree of the node
  pub anchors_after : Value → List Anchor → List Anchor
  anchors_after (beside more i after) a = a
  anchors_after (literal more column text ls) a = a
  anchors_after (folded more column strips text ls) a = a
  anchors_after (json more v) a = a
  anchors_after (compact more b) a = anchors_after_block b a
  anchors_after (below after g column b) a = anchors_after_block b a
  anchors_after (at_key after g es) a = anchors_after_entries es a
  anchors_after (anchored more name v) a = with_end (value_tree v) (anchors_after v (begun name ∷ a))
  anchors_after (alias more name t) a = a

  -- after the entries of an array
  pub anchors_after_entries : Entries → List Anchor → List Anchor
  anchors_after_entries (last_entry v) a = anchors_after v a
  anchors_after_entries (entry v g es) a = anchors_after_entries es (anchors_after v a)

  -- after an entry of a hash: its key comes before its value
  pub anchors_after_field : Field → List Anchor → List Anchor
  anchors_after_field (implicit k v) a = anchors_after v a
  anchors_after_field (explicit k g v) a = anchors_after v (anchors_after k a)

  -- after the entries of a hash
  pub anchors_after_fields : Fields → List Anchor → List Anchor
  anchors_after_fields (last_field f) a = anchors_after_field f a
  anchors_after_fields (field f g fs) a = anchors_after_fields fs (anchors_after_field f a)

-- ---- what makes it valid

-- a scalar that is spelt without quotes: a string only where it isn't quoted, a real only where its text reads as one
abbrev pub IsPlain : Tree → Type 0
IsPlain (Tree.real text) = is_real_text text ≡ true
IsPlain (Tree.integer z) = fits_i64 z ≡ true
IsPlain (Tree.string text) = is_quoted text ≡ false
IsPlain (Tree.boolean b) = Unit {0}
IsPlain (Tree.array ts) = ⊥
IsPlain (Tree.hash ps) = ⊥
IsPlain (Tree.alias n) = ⊥
IsPlain Tree.null = Unit {0}
IsPlain Tree.bad_value = ⊥

-- any string may stand in double quotes; a text in single quotes stays within its line
abbrev pub IsScalar : Scalar → Type 0
IsScalar (plain t) = IsPlain t
IsScalar (quoted text) = Unit {0}
IsScalar (single_quoted text) = IsLineText text

-- a scalar is valid
abbrev pub IsInline : Inline → Type 0
IsInline (scalar s) = IsScalar s
IsInline empty_array = Unit {0}
IsInline empty_hash = Unit {0}

-- a comment is a text within its line
abbrev pub IsComment : Comment → Type 0
IsComment no_comment = Unit {0}
IsComment (comment more text) = IsLineText text

-- a key that may stand before `:` on its line: a scalar of at most 1024 characters as it is written
abbrev pub IsImplicitKey : Scalar → Type 0
IsImplicitKey s = IsScalar s × (length (spell_scalar s []) ≤ 1024)

-- a key that may stand after `?`: an array or a hash, without anchor and no alias
abbrev pub IsExplicitKey : Value → Type 0
IsExplicitKey (beside more (scalar s) after) = ⊥
IsExplicitKey (beside more empty_array after) = Unit {0}
IsExplicitKey (beside more empty_hash after) = Unit {0}
IsExplicitKey (literal more column text ls) = ⊥
IsExplicitKey (folded more column strips text ls) = ⊥
IsExplicitKey (json more v) = Unit {0}
IsExplicitKey (compact more b) = Unit {0}
IsExplicitKey (below after g column b) = Unit {0}
IsExplicitKey (at_key after g es) = ⊥
IsExplicitKey (anchored more name v) = ⊥
IsExplicitKey (alias more name t) = ⊥

-- after the `:` of a scalar key no block begins on the same line
abbrev pub MayFollowScalarKey : Value → Type 0
MayFollowScalarKey (compact more b) = ⊥
MayFollowScalarKey _ = Unit {0}

-- an array at the column of its mark may be the value of a scalar key alone
abbrev pub MayFollowMark : Value → Type 0
MayFollowMark (at_key after g es) = ⊥
MayFollowMark _ = Unit {0}

-- an anchor may stand before a scalar on its line, a literal block, and a block on the next line
abbrev pub MayBeAnchored : Value → Type 0
MayBeAnchored (beside more (scalar s) after) = Unit {0}
MayBeAnchored (beside more empty_array after) = ⊥
MayBeAnchored (beside more empty_hash after) = ⊥
MayBeAnchored (literal more column text ls) = Unit {0}
MayBeAnchored (folded more column strips text ls) = ⊥
MayBeAnchored (json more v) = ⊥
MayBeAnchored (compact more b) = ⊥
MayBeAnchored (below after g column b) = Unit {0}
MayBeAnchored (at_key after g es) = ⊥
MayBeAnchored (anchored more name v) = ⊥
MayBeAnchored (alias more name t) = ⊥

-- the lines of a literal block are those of its text, each as it may be written at the column
abbrev pub AreLinesOf : (text : List ℕ) → (column : ℕ) → List Line → Type 0
AreLinesOf text column ls = (contents ls ≡ lines_of text) × AreLines column ls

-- an array or an object
abbrev pub IsJsonCollection : Json → Type 0
IsJsonCollection (Json.empty_array g) = Unit {0}
IsJsonCollection (Json.array g es) = Unit {0}
IsJsonCollection (Json.empty_object g) = Unit {0}
IsJsonCollection (Json.object g ms) = Unit {0}
IsJsonCollection _ = ⊥

-- not TAB, LF or CR
unfoldable pub is_on_one_line : ℕ → Bool
is_on_one_line c = not ((c == tab) || (c == line_feed) || (c == carriage_return))

-- a JSON array or object on one line, without TAB
abbrev pub IsJsonOnOneLine : Json → Type 0
IsJsonOnOneLine v = IsJsonCollection v × IsJson v × (levels v ≤ 255) × (list_all is_on_one_line (Json.spell v []) ≡ true)

-- the header of a folded block
abbrev pub folded_style : (strips : Bool) → Header
folded_style strips = record { style = BlockStyle.folded; chomping = (if strips then Chomping.strip else Chomping.clip); digit = None }

-- the lines of a block scalar with their indentation
abbrev pub indented_lines : (column : ℕ) → List Line → List (List ℕ)
indented_lines column ls = map (λ l. spell_line column l []) ls

-- the first line that isn't empty doesn't start with a space
abbrev pub BeginsWithText : List Line → Type 0
BeginsWithText [] = ⊥
BeginsWithText (full [] ∷ ls) = ⊥
BeginsWithText (full (c ∷ text) ∷ ls) = (c == space) ≡ false
BeginsWithText (blank n ∷ ls) = BeginsWithText ls

-- the last line isn't empty
abbrev pub EndsInText : List Line → Type 0
EndsInText [] = ⊥
EndsInText (full text ∷ []) = Unit {0}
EndsInText (blank n ∷ []) = ⊥
EndsInText (l ∷ m ∷ ls) = EndsInText (m ∷ ls)

-- no line holds CR, LF or NUL
abbrev pub AreLineTexts : List Line → Type 0
AreLineTexts [] = Unit {0}
AreLineTexts (full text ∷ ls) = IsLineText text × AreLineTexts ls
AreLineTexts (blank n ∷ ls) = AreLineTexts ls

-- The lines of a folded block below a collection at the column c, whose value is the text.
abbrev pub AreFoldedLines : (c column : ℕ) → (strips : Bool) → (text : List ℕ) → List Line → Type 0
AreFoldedLines c column strips text ls =
    BeginsWithText ls × EndsInText ls × AreLineTexts ls × AreLines column ls
    × (block_value (folded_style strips) (Some c) (Body.body (indented_lines column ls) Ending.further_text) ≡ Some text)

abbrev mutual
  -- a hash has no key twice
  pub IsBlock : (c : ℕ) → List Anchor → Block → Type 0
  IsBlock c a (array es) = AreEntries c a es
  IsBlock c a (hash fs) = AreFields c a fs × AreDistinct (pair_list fs)

  -- Below a mark at the column c, what is nested stands at a deeper column; a are the anchors before.
  pub IsValue : (c : ℕ) → List Anchor → Value → Type 0
  IsValue c a (beside more i after) = IsInline i × IsComment after
  IsValue c a (literal more column text ls) = (c < column) × (is_literal_text text ≡ true) × AreLinesOf text column ls
  IsValue c a (folded more column strips text ls) = (c < column) × AreFoldedLines c column strips text ls
  IsValue c a (json more v) = IsJsonOnOneLine v
  IsValue c a (compact more b) = IsBlock (c + 2 + more) a b
  IsValue c a (below after g column b) = IsComment after × IsGap g × (c < column) × IsBlock column a b
  IsValue c a (at_key after g es) = IsComment after × IsGap g × AreEntries c a es
  IsValue c a (anchored more name v) = (is_name name ≡ true) × MayBeAnchored v × IsValue c (begun name ∷ a) v
  IsValue c a (alias more name t) = (is_name name ≡ true) × (last_tree name a ≡ Some t)

  -- Each value and each gap is valid. A value sees the anchors of the values before it.
  pub AreEntries : (c : ℕ) → List Anchor → Entries → Type 0
  AreEntries c a (last_entry v) = MayFollowMark v × IsValue c a v
  AreEntries c a (entry v g es) = MayFollowMark v × IsValue c a v × IsGap g × AreEntries c (anchors_after v a) es

  -- a key of its kind, and a value that may stand after it
  pub IsField : (c : ℕ) → List Anchor → Field → Type 0
  IsField c a (implicit k v) = IsImplicitKey k × MayFollowScalarKey v × IsValue c a v
  IsField c a (explicit k g v) = IsExplicitKey k × IsValue c a k × IsGap g × MayFollowMark v × IsValue c (anchors_after k a) v

  -- Each entry is valid. It sees the anchors of the entries before it.
  pub AreFields : (c : ℕ) → List Anchor → Fields → Type 0
  AreFields c a (last_field f) = IsField c a f
  AreFields c a (field f g fs) = IsField c a f × IsGap g × AreFields c (anchors_after_field f a) fs

-- a document's anchors are its own
abbrev pub IsRoot : Root → Type 0
IsRoot (block column b) = IsBlock column [] b
IsRoot (inline i) = IsInline i
IsRoot (literal text ls) = (is_root_literal text ≡ true) × AreLinesOf text 0 ls

-- after a literal block at column 0 a comment would be a line of its text
abbrev pub IsAfterRoot : Root → List GapLine → Type 0
IsAfterRoot (block column b) g = IsGap g
IsAfterRoot (inline i) g = IsGap g
IsAfterRoot (literal text ls) g = AreEmptyLines g

-- each document is valid
abbrev pub AreDocuments : Documents → Type 0
AreDocuments (last_document d after) = IsGap d.gap × IsRoot d.root × IsAfterRoot d.root after
AreDocuments (document d g ds) = IsGap d.gap × IsRoot d.root × IsAfterRoot d.root g × AreDocuments ds

-- what makes a written text a layout
abbrev pub IsLayout : Layout → Type 0
IsLayout w = AreDocuments w.documents

-- the trees, one a document, are laid out as the text
abbrev pub AreLaidOut : List Tree → List ℕ → Type 0
AreLaidOut trees text = (w : Layout) × IsLayout w × (spell w [] ≡ text) × (trees_of w.documents ≡ trees)
