-- What the scan of a block scalar reads is its piece.
use Rattle.proof_scanner.proofs.Common.{cases_Bool, [], and_false, ap, arith, begins_with, Block, block, block_position, block_read, BlockIsRead, BlockRead, BlockStyle, collection_column, collection_of, false, folded, further_position, has_no_nul, if◌then◌else◌, indicator_of, inl, inr, is_at_end, is_blank, is_empty, is_literal_style, is_nul, is_past, is_separation, IsPiece, List, literal, nat_lt, nat_tests, Ok, Option, past_spaces, Position, position_after, position_past, Read, read_as, ReadAs, refl, scalar, Some, split, Style, subst, Tok, true, whole_block, without_spaces, ℕ, ◌++◌, ◌<◌, ◌==◌, ◌∙◌, ◌∷◌, ◌≡◌, ◌⊎◌, further_is_no_break, line_grows, eqb-true}
use Rattle.model_scanner.specs.declared.kind.BlockStyle.TheVariants.{Literal, Folded}
use Rattle.defs_text.specs.Classes.{space}
use Rattle.defs_token.specs.Account.{Account, is_in_flow}
use Rattle.proof_lexers.specs.BlockScan.{read}
use Rattle.proof_lexers.proofs.Blocks.Ends.{scans_end}
use Rattle.proof_lexers.proofs.Separation.EachSeparation.{no_nul_after}
use Rattle.proof_scanner.proofs.Cut.Pieces.Quoted.{some_chars}

-- ---- the spaces after a piece

-- the spaces that a text begins with
abbrev pub spaces_of : List ℕ → List ℕ
spaces_of [] = []
spaces_of (c ∷ r) = (if c == space then c ∷ spaces_of r else [])

pub spaces_cut : (t : List ℕ) → t ≡ spaces_of t ++ without_spaces t
spaces_cut [] = refl
spaces_cut (c ∷ r) = grind (arith, space, spaces_cut r)

pub spaces_fill : (t rest : List ℕ) → is_separation false (spaces_of t) rest ≡ true
unfolding is_blank
spaces_fill [] rest = refl
spaces_fill (c ∷ r) rest = grind (arith, spaces_fill r rest)

pub spaces_position : (p : Position) (t : List ℕ) → past_spaces p t ≡ position_after p (spaces_of t) (without_spaces t)
spaces_position p [] = refl
spaces_position p (c ∷ r) = grind (arith, space, spaces_cut, spaces_position (position_past p c r) r)

-- ---- lines

-- a text with a whole line ends on a later one
lines_up : (p : Position) (t next : List ℕ) → is_empty (split t).complete ≡ false → begins_with 10 next ≡ false → p.line < (position_after p t next).line
lines_up p [] next h f = cc
lines_up p (c ∷ t) next h f = grind (arith, line_grows, and_false, lines_up (position_past p c (t ++ next)) t next)

-- ---- what a piece shows

pub some_piece : (collection : Option ℕ) (piece next : List ℕ) (b : BlockRead) → block_read collection piece next ≡ Some b → is_empty piece ≡ false
some_piece a d e b h = grind arith

pub piece_has_line : (collection : Option ℕ) (piece next : List ℕ) (b : BlockRead) → is_at_end next ≡ false → block_read collection piece next ≡ Some b → (is_empty (split piece).complete ≡ false) × (begins_with 10 next ≡ false)
piece_has_line collection piece next b e h = grind (arith, nat_tests, eqb-true, is_at_end, is_past, begins_with, further_is_no_break)

-- ---- the piece

-- a block scalar's token
abbrev pub token_of : BlockStyle → List ℕ → Tok
token_of literal text = scalar Style.literal text
token_of folded text = scalar Style.folded text

-- the scan ended on a later line, or at the text's end
abbrev pub IsBelow : (start end : Position) → (rest : List ℕ) → Type 0
IsBelow start end rest = (rest ≡ []) ⊎ (nat_lt start.line end.line ≡ true)

pub end_no_text : (t : List ℕ) → has_no_nul t ≡ true → is_at_end t ≡ true → t ≡ []
end_no_text a h e = grind arith

module _ (a : Account) (indent : ℕ) (outside : is_in_flow a ≡ false) (column : collection_column a ≡ collection_of indent) where
  pub below : (piece next : List ℕ) (b : BlockRead) → has_no_nul next ≡ true → block_read (collection_of indent) piece next ≡ Some b → IsBelow a.position (further_position a.position piece next) (without_spaces next)
  below piece next b nul is = elim (cases_Bool (is_at_end next)) [
    | inl e ↦ inl (ap without_spaces (end_no_text next nul e))
    | inr e ↦
        let q = piece_has_line (collection_of indent) piece next b e is in
        let up = lines_up a.position piece next q.0 q.1 in
        let stays = line_grows (position_after a.position piece next) (spaces_of next) (without_spaces next) in
        let here = ap (λ (z : Position). z.line) (spaces_position (position_after a.position piece next) next) in
        inr (grind (arith, nat_tests, up, stays, here))
  ]

  found : (style : BlockStyle) (text piece next : List ℕ) (b : BlockRead) → has_no_nul next ≡ true → text ≡ piece ++ next → block_read (collection_of indent) piece next ≡ Some b → b.style ≡ style
      → ReadAs a text (token_of style b.text) (block_position b.column a.position piece next) (without_spaces next) (further_position a.position piece next) × IsBelow a.position (further_position a.position piece next) (without_spaces next)
  found style text [] next b nul cut is looks = absurd (cc (some_piece (collection_of indent) [] next b is))
  found style text (c ∷ piece) next b nul cut is looks =
      let position : Position = block_position b.column a.position (c ∷ piece) next in
      let whole : text ≡ (c ∷ piece) ++ (spaces_of next ++ without_spaces next) = cut ∙ ap (λ l. (c ∷ piece) ++ l) (spaces_cut next) in
      let is_piece : (following : Option Tok) → IsPiece a (c ∷ piece) (spaces_of next ++ without_spaces next) following position (token_of style b.text) =
      λ following. subst (λ l. IsPiece a (c ∷ piece) l following position (token_of style b.text)) (spaces_cut next) (grind arith) in
      let end = spaces_position (position_after a.position (c ∷ piece) next) next ∙ ap (λ l. position_after (position_after a.position (c ∷ piece) l) (spaces_of next) (without_spaces next)) (spaces_cut next) in
      (search (whole, spaces_fill next (without_spaces next), is_piece, end), below (c ∷ piece) next b nul is)

  by_style : (style : BlockStyle) (more : List ℕ) (r : Read Block) → has_no_nul (indicator_of style ∷ more) ≡ true → has_no_nul more ≡ true → block (is_literal_style style) indent (indicator_of style ∷ more) a.position ≡ Ok r
      → ReadAs a (indicator_of style ∷ more) (token_of style r.value.text) r.value.position r.rest r.position × IsBelow a.position r.position r.rest
  by_style style more r all nul e = elim (read_as e (scans_end style indent more a.position (some_chars more nul))) [
    | whole_block piece next b it (read free deep same) ↦ rw same (found style (indicator_of style ∷ more) piece next b (no_nul_after piece next (subst (λ l. has_no_nul l ≡ true) it.is_text all)) it.is_text it.is_read it.is_style)
  ]

-- a block scalar that was read is the piece of its token, and after it spaces were passed
pub block_is_read : BlockIsRead
unfolding is_nul
block_is_read a Literal indent more r nul outside column e = by_style a indent outside column literal more r nul nul e
block_is_read a Folded indent more r nul outside column e = by_style a indent outside column folded more r nul nul e
