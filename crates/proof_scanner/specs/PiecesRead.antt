-- What the exact model of each lexing function reads for its token: a piece of the cut, and a separation after it.
use Rattle.std.specs.Prelude.{◌≡◌, ℕ, List, [], ◌∷◌, ◌++◌, Bool, true, false, ◌==◌, ◌&&◌, ◌⊎◌, not, nat_lt, if◌then◌else◌, Option, Ok}
use Rattle.defs_text.specs.Position.{Position, position_after}
use Rattle.defs_token.specs.Token.{Tok, version_directive, tag_directive, tag, scalar, plain}
use Rattle.defs_text.specs.Classes.{is_at_gap, is_document_marker}
use Rattle.defs_token.specs.Separation.{is_separation}
use Rattle.defs_token.specs.Plain.{may_begin}
use Rattle.defs_token.specs.Account.{Account, is_in_flow, collection_column, is_adjacent, is_closed}
use Rattle.defs_token.specs.Piece.{IsPiece}
use Rattle.model_scanner.specs.declared.context.Context.{Context}
use Rattle.model_scanner.specs.declared.kind.NameKind.{NameKind}
use Rattle.model_scanner.specs.declared.kind.NameKind.TheVariants.{Alias, Anchor}
use Rattle.model_scanner.specs.declared.kind.Quotes.{Quotes}
use Rattle.model_scanner.specs.declared.kind.BlockStyle.{BlockStyle}
use Rattle.model_scanner.specs.Kinds.{anchor_token, are_single, quoted_style, is_literal, block_style}
use Rattle.model_scanner.specs.Machine.{Read}
use Rattle.model_scanner.specs.Plain as plains
use Rattle.model_scanner.specs.Quoted.{quoted, quote_of}
use Rattle.model_scanner.specs.Anchor.{anchor_name}
use Rattle.model_scanner.specs.BlockScalar.{Block, block}
use Rattle.model_scanner.specs.Directive.{directive}
use Rattle.model_scanner.specs.Tag as tags
use Rattle.defs_text.specs.Text.{has_no_nul}
use Rattle.proof_lexers.specs.PlainEnds.{collection_of, is_indented}

-- What was read of a text at an account: a piece, which belongs to a token, and a separation after it; the text that is left, and the position there.
pub record ReadAs (a : Account) (text : List ℕ) (tok : Tok) (position : Position) (rest : List ℕ) (end : Position) : Type 0 where
  pub first : ℕ
  pub more : List ℕ
  pub separation : List ℕ
  pub is_text : text ≡ (first ∷ more) ++ (separation ++ rest)
  pub is_filled : is_separation false separation rest ≡ true
  pub is_piece : (following : Option Tok) → IsPiece a (first ∷ more) (separation ++ rest) following position tok
  pub is_end : end ≡ position_after (position_after a.position (first ∷ more) (separation ++ rest)) separation rest

-- whether a plain scalar is looked for at a text: as `begins_plain`, but in flow a dash before a flow indicator is refused by the scan itself
abbrev pub comes_plain : (in_flow adjacent : Bool) → (column : ℕ) → List ℕ → Bool
comes_plain in_flow adjacent column [] = false
comes_plain in_flow adjacent column (c ∷ r) = (if c == 45 then not (is_at_gap r) else may_begin in_flow adjacent c r) && not ((column == 0) && is_document_marker (c ∷ r))

abbrev pub PlainIsRead : Type 0
PlainIsRead =
    (a : Account) (ctx : Context) (text : List ℕ) (r : Read plains.Plain) → has_no_nul text ≡ true → is_in_flow a ≡ ctx.flow → collection_column a ≡ collection_of ctx.indent
    → comes_plain ctx.flow (is_adjacent a.before) a.position.col text ≡ true → is_indented ctx a.position ≡ true → plains.plain ctx text a.position ≡ Ok r
    → ReadAs a text (scalar plain r.value.text) a.position r.rest r.position

abbrev pub QuotedIsRead : Type 0
QuotedIsRead =
    (a : Account) (quotes : Quotes) (ctx : Context) (more : List ℕ) (r : Read (List ℕ)) → has_no_nul more ≡ true → quoted (are_single quotes) ctx (quote_of (are_single quotes) ∷ more) a.position ≡ Ok r
    → ReadAs a (quote_of (are_single quotes) ∷ more) (scalar (quoted_style quotes) r.value) a.position r.rest r.position

-- Besides: the scan ends on a later line, or at the text's end.
abbrev pub BlockIsRead : Type 0
BlockIsRead =
    (a : Account) (style : BlockStyle) (indent : ℕ) (more : List ℕ) (r : Read Block) → has_no_nul more ≡ true → is_in_flow a ≡ false → collection_column a ≡ collection_of indent
    → block (is_literal style) indent ((if is_literal style then 124 else 62) ∷ more) a.position ≡ Ok r
    → ReadAs a ((if is_literal style then 124 else 62) ∷ more) (scalar (block_style style) r.value.text) r.value.position r.rest r.position × ((r.rest ≡ []) ⊎ (nat_lt a.position.line r.position.line ≡ true))

-- the character that a name stands after
abbrev pub mark_of : NameKind → ℕ
mark_of Alias = 42
mark_of Anchor = 38

abbrev pub NameIsRead : Type 0
NameIsRead =
    (a : Account) (kind : NameKind) (more : List ℕ) (r : Read (List ℕ)) → has_no_nul more ≡ true → anchor_name (mark_of kind ∷ more) a.position ≡ Ok r
    → ReadAs a (mark_of kind ∷ more) (anchor_token kind r.value) a.position r.rest r.position

abbrev pub TagIsRead : Type 0
TagIsRead =
    (a : Account) (in_flow : Bool) (more : List ℕ) (r : Read tags.Tag) → has_no_nul more ≡ true → is_in_flow a ≡ in_flow → tags.tag in_flow (33 ∷ more) a.position ≡ Ok r
    → ReadAs a (33 ∷ more) (tag r.value.handle r.value.suffix) a.position r.rest r.position

-- whether a token is a directive's
abbrev pub is_directive_token : Tok → Bool
is_directive_token (version_directive major minor) = true
is_directive_token (tag_directive handle prefix) = true
is_directive_token _ = false

abbrev pub DirectiveIsRead : Type 0
DirectiveIsRead =
    (a : Account) (more : List ℕ) (r : Read Tok) → has_no_nul more ≡ true → a.position.col ≡ 0 → is_closed a ≡ true → directive (37 ∷ more) a.position ≡ Ok r
    → ReadAs a (37 ∷ more) r.value a.position r.rest r.position × (is_directive_token r.value ≡ true)

-- all of these
pub record PiecesAreRead : Type 0 where
  pub plain : PlainIsRead
  pub quoted : QuotedIsRead
  pub block : BlockIsRead
  pub name : NameIsRead
  pub tag : TagIsRead
  pub directive : DirectiveIsRead
