-- Each piece of text has one end: of two pieces of one kind with which one text begins, each whole before the text after it, neither goes on past the other.
-- YAML 1.2, sections 6.1 to 6.7 (separations), 6.8 (directives), 6.9 (properties), 7.3 (flow scalars), 8.1 (block scalars) and 9.1 (documents).
use Rattle.std.specs.Prelude.{◌≡◌, ◌≢◌, ℕ, List, [], ◌∷◌, ◌++◌, Bool, true, false, ◌&&◌, ◌||◌, ◌==◌, not, if◌then◌else◌, Option, Some, codes}
use Rattle.defs_text.specs.Classes.{is_blank_or_end, is_at_gap, is_one_of}
use Rattle.defs_text.specs.Tags.{Tag, written_tag}
use Rattle.defs_text.specs.Directives.{Directive, directive_of}
use Rattle.defs_text.specs.Position.{Position}
use Rattle.defs_token.specs.Token.{Tok, version_directive, tag_directive, document_start, document_end, flow_sequence_start, flow_sequence_end, flow_mapping_start, flow_mapping_end, block_entry, flow_entry, key, value, alias, anchor, tag, scalar, plain, single_quoted, double_quoted, literal, folded}
use Rattle.defs_text.specs.Text.{up_to_nul, has_no_nul}
use Rattle.defs_text.specs.Breaks.{is_at_line_end, has_no_break}
use Rattle.defs_token.specs.Separation.{is_separation}
use Rattle.defs_token.specs.Plain.{begins_flow, begins_plain, is_whole_plain}
use Rattle.defs_token.specs.BlockPiece.{BlockRead, block_read}
use Rattle.defs_token.specs.Account.{Account, is_in_flow, is_adjacent, collection_column}
use Rattle.defs_token.specs.Piece.{Holds, IsNamed, IsSingleQuoted, IsDoubleQuoted, IsPiece}

-- ---- what is stated

-- Pieces of a kind have one end: two of them at the start of one text are equal, and so are the texts after them.
abbrev pub HaveOneEnd : ((piece next : List ℕ) → Type 0) → Type 0
HaveOneEnd P = (p q x y : List ℕ) → P p x → P q y → p ++ x ≡ q ++ y → (p ≡ q) × (x ≡ y)

-- ---- separations

-- whether a separation ends before a text: at the text's end, or before a character that is no blank, break or NUL and begins no comment
abbrev pub ends_separation : List ℕ → Bool
ends_separation [] = true
ends_separation (c ∷ r) = not (is_blank_or_end c) && not (c == 35)

-- a separation, and no more of it after it
abbrev pub IsWholeSeparation : (separation next : List ℕ) → Type 0
IsWholeSeparation separation next = Holds (is_separation false separation next) × Holds (ends_separation next)

-- `separations_have_one_end`
abbrev pub SeparationsHaveOneEnd : Type 0
SeparationsHaveOneEnd = HaveOneEnd IsWholeSeparation

-- ---- names of anchors and aliases

-- an indicator and some name
abbrev pub IsWholeName : (indicator : ℕ) → (piece next : List ℕ) → Type 0
IsWholeName indicator piece next = (name : List ℕ) × IsNamed indicator piece next name

-- `names_have_one_end`
abbrev pub NamesHaveOneEnd : Type 0
NamesHaveOneEnd = (indicator : ℕ) → HaveOneEnd (IsWholeName indicator)

-- ---- flow scalars

-- a plain scalar that goes on to its end
abbrev pub IsWholePlain : (in_flow : Bool) → (collection : Option ℕ) → (piece next : List ℕ) → Type 0
IsWholePlain in_flow collection piece next = Holds (is_whole_plain in_flow collection piece next)

-- `plain_scalars_have_one_end`
abbrev pub PlainScalarsHaveOneEnd : Type 0
PlainScalarsHaveOneEnd = (in_flow : Bool) (collection : Option ℕ) → HaveOneEnd (IsWholePlain in_flow collection)

-- a scalar in single quotes with some value
abbrev pub IsWholeSingleQuoted : (piece next : List ℕ) → Type 0
IsWholeSingleQuoted piece next = (text : List ℕ) × IsSingleQuoted piece next text

-- `single_quoted_scalars_have_one_end`
abbrev pub SingleQuotedScalarsHaveOneEnd : Type 0
SingleQuotedScalarsHaveOneEnd = HaveOneEnd IsWholeSingleQuoted

-- a scalar in double quotes with some value
abbrev pub IsWholeDoubleQuoted : (piece next : List ℕ) → Type 0
IsWholeDoubleQuoted piece next = (text : List ℕ) × IsDoubleQuoted piece next text

-- `double_quoted_scalars_have_one_end`
abbrev pub DoubleQuotedScalarsHaveOneEnd : Type 0
DoubleQuotedScalarsHaveOneEnd = HaveOneEnd IsWholeDoubleQuoted

-- ---- tags and directives

-- a tag, and a blank, a break or the end after it, in flow also a flow indicator
abbrev pub IsWholeTag : (in_flow : Bool) → (piece next : List ℕ) → Type 0
IsWholeTag in_flow piece next = (t : Tag) × (written_tag piece ≡ Some t) × Holds (is_at_gap next || (in_flow && begins_flow next))

-- `tags_have_one_end`
abbrev pub TagsHaveOneEnd : Type 0
TagsHaveOneEnd = (in_flow : Bool) → HaveOneEnd (IsWholeTag in_flow)

-- One line that is a directive. In a directive of another name, or in a comment, a NUL would count as a character and as an end; so the text has none.
abbrev pub IsWholeDirective : (piece next : List ℕ) → Type 0
IsWholeDirective piece next = (d : Directive) × (directive_of piece ≡ Some d) × Holds (has_no_break piece) × Holds (is_at_line_end next) × Holds (has_no_nul (piece ++ next))

-- `directives_have_one_end`
abbrev pub DirectivesHaveOneEnd : Type 0
DirectivesHaveOneEnd = HaveOneEnd IsWholeDirective

-- ---- block scalars

-- A whole block scalar. In a comment or a content line a NUL would count as a character and as an end; so the text has none.
abbrev pub IsWholeBlockScalar : (collection : Option ℕ) → (piece next : List ℕ) → Type 0
IsWholeBlockScalar collection piece next = (r : BlockRead) × (block_read collection piece next ≡ Some r) × Holds (has_no_nul (piece ++ next))

-- `block_scalars_have_one_end`
abbrev pub BlockScalarsHaveOneEnd : Type 0
BlockScalarsHaveOneEnd = (collection : Option ℕ) → HaveOneEnd (IsWholeBlockScalar collection)

-- ---- kinds of pieces

-- what a piece is
pub data Kind : Type 0 where
  nothing : Kind
  plain_scalar : Kind
  sequence_opening : Kind
  sequence_closing : Kind
  mapping_opening : Kind
  mapping_closing : Kind
  comma : Kind
  question : Kind
  colon : Kind
  dash : Kind
  dashes : Kind
  dots : Kind
  directive_line : Kind
  alias_name : Kind
  anchor_name : Kind
  tag_text : Kind
  in_single_quotes : Kind
  in_double_quotes : Kind
  block_scalar : Kind

-- the kind of a piece that begins with an indicator, by this character and the text after it
abbrev pub kind_by : ℕ → List ℕ → Kind
kind_by c r =
    (if c == 91 then sequence_opening else
    (if c == 93 then sequence_closing else
    (if c == 123 then mapping_opening else
    (if c == 125 then mapping_closing else
    (if c == 44 then comma else
    (if c == 63 then question else
    (if c == 58 then colon else
    (if c == 45 then (if is_at_gap r then dash else dashes) else
    (if c == 46 then dots else
    (if c == 37 then directive_line else
    (if c == 42 then alias_name else
    (if c == 38 then anchor_name else
    (if c == 33 then tag_text else
    (if c == 39 then in_single_quotes else
    (if c == 34 then in_double_quotes else
    (if is_one_of (codes "|>") c then block_scalar else nothing))))))))))))))))

-- The kind of the piece with which a text begins, if one does: a plain scalar where one may begin, or else what the first character says.
abbrev pub kind_at : (in_flow adjacent : Bool) → (column : ℕ) → (text : List ℕ) → Kind
kind_at in_flow adjacent column [] = nothing
kind_at in_flow adjacent column (c ∷ r) = (if begins_plain in_flow adjacent column (c ∷ r) then plain_scalar else kind_by c r)

-- the kind of a token's piece; those of block collections, and of the stream, have none
abbrev pub kind_of : Tok → Kind
kind_of (version_directive major minor) = directive_line
kind_of (tag_directive handle prefix) = directive_line
kind_of document_start = dashes
kind_of document_end = dots
kind_of flow_sequence_start = sequence_opening
kind_of flow_sequence_end = sequence_closing
kind_of flow_mapping_start = mapping_opening
kind_of flow_mapping_end = mapping_closing
kind_of block_entry = dash
kind_of flow_entry = comma
kind_of key = question
kind_of value = colon
kind_of (alias name) = alias_name
kind_of (anchor name) = anchor_name
kind_of (tag handle suffix) = tag_text
kind_of (scalar plain text) = plain_scalar
kind_of (scalar single_quoted text) = in_single_quotes
kind_of (scalar double_quoted text) = in_double_quotes
kind_of (scalar literal text) = block_scalar
kind_of (scalar folded text) = block_scalar
kind_of _ = nothing

-- `texts_begin_with_one_kind`: the text at a piece says its kind
abbrev pub TextsBeginWithOneKind : Type 0
TextsBeginWithOneKind = (a : Account) (piece next : List ℕ) (following : Option Tok) (position : Position) (t : Tok) → piece ≢ [] → IsPiece a piece next following position t →
    kind_at (is_in_flow a) (is_adjacent a.before) (a.position.col) (piece ++ next) ≡ kind_of t

-- `separations_end_before_pieces`: what a piece begins is no more separation
abbrev pub SeparationsEndBeforePieces : Type 0
SeparationsEndBeforePieces = (a : Account) (piece next : List ℕ) (following : Option Tok) (position : Position) (t : Tok) → piece ≢ [] → IsPiece a piece next following position t → Holds (ends_separation (piece ++ next))

-- ---- all

-- `pieces_have_one_end`: at one account a text without NUL begins with one piece of one token
abbrev pub PiecesHaveOneEnd : Type 0
PiecesHaveOneEnd = (a : Account) (p q x y : List ℕ) (f g : Option Tok) (m n : Position) (t u : Tok) → p ≢ [] → q ≢ [] → IsPiece a p x f m t → IsPiece a q y g n u →
    p ++ x ≡ q ++ y → Holds (has_no_nul (p ++ x)) → (p ≡ q) × (x ≡ y) × (t ≡ u)

-- whether what decides the kind of a piece is the same in two accounts
abbrev pub IsSeenAlike : Account → Account → Type 0
IsSeenAlike a b = (is_in_flow a ≡ is_in_flow b) × (is_adjacent a.before ≡ is_adjacent b.before) × (a.position.col ≡ b.position.col)

-- `pieces_seen_alike_have_one_end`: of two accounts no more need be the same than this, and for pieces of one kind the column of the innermost block collection
abbrev pub PiecesSeenAlikeHaveOneEnd : Type 0
PiecesSeenAlikeHaveOneEnd = (a b : Account) (p q x y : List ℕ) (f g : Option Tok) (m n : Position) (t u : Tok) → IsSeenAlike a b → (kind_of t ≡ kind_of u → collection_column a ≡ collection_column b) →
    p ≢ [] → q ≢ [] → IsPiece a p x f m t → IsPiece b q y g n u → p ++ x ≡ q ++ y → Holds (has_no_nul (p ++ x)) → (p ≡ q) × (x ≡ y) × (t ≡ u)

-- `separations_before_pieces_are_one`: two separations with which one text begins, each with a piece after it, are equal
abbrev pub SeparationsBeforePiecesAreOne : Type 0
SeparationsBeforePiecesAreOne = (a b : Account) (v w p q x y : List ℕ) (f g : Option Tok) (m n : Position) (t u : Tok) → Holds (is_separation false v (p ++ x)) → Holds (is_separation false w (q ++ y)) →
    p ≢ [] → q ≢ [] → IsPiece a p x f m t → IsPiece b q y g n u → v ++ (p ++ x) ≡ w ++ (q ++ y) → (v ≡ w) × (p ++ x ≡ q ++ y)

-- `no_piece_is_in_a_separation`: a text that is a separation up to its end is no other separation with a piece after it
abbrev pub NoPieceIsInASeparation : Type 0
NoPieceIsInASeparation = (a : Account) (v w p x : List ℕ) (f : Option Tok) (m : Position) (t : Tok) → Holds (is_separation false v []) → Holds (is_separation false w (p ++ x)) → p ≢ [] → IsPiece a p x f m t → v ≡ w ++ (p ++ x) → ⊥

-- `texts_up_to_their_end_have_no_nul`: what the laws above ask of a text
abbrev pub TextsUpToTheirEndHaveNoNul : Type 0
TextsUpToTheirEndHaveNoNul = (text : List ℕ) → Holds (has_no_nul (up_to_nul text))
