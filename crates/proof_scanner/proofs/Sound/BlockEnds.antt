-- What stands after a block scalar that the scanner reads: it stands clear of the scalar.
use Rattle.proof_scanner.proofs.Common.{AreLines, Block, BlockRead, BlockStyle, Break, Lined, List, None, Ok, Option, Position, Read, Some, [], after_line, after_spell, and_parts, ap, are_empty, arith, block, block_may_end, block_read, collection_of, eqb-true, false, first_content, first_empty, first_header, has_no_nul, indicator_of, innermost, is_at_end, is_empty_line, is_literal_style, is_shallow, is_tabbed, leading_spaces, least_column, lined, nat_tests, past_spaces, position_after, position_past, read_as, read_block, read_lines, read_may_end, refl, slice_index, space_past, spell, split, split_spell, texts, true, whole_block, ℕ, ◌++◌, ◌+◌, ◌==◌, ◌∙◌, ◌∷◌, ◌≡◌, lines_front}
use Rattle.proof_lexers.specs.BlockScan.{read}
use Rattle.proof_lexers.proofs.Blocks.Ends.{scans_end}
use Rattle.proof_scanner.proofs.Cut.Pieces.Blocks.{piece_has_line}
use Rattle.proof_scanner.proofs.Cut.Pieces.Quoted.{some_chars}
use Rattle.proof_lexers.proofs.Blocks.Written.{Line, put}

-- ---- the lines of a piece before further text

-- a piece is its header's line and others, each with its break
pub record Written (piece next : List ℕ) : Type 0 where
  pub header : Line
  pub lines : List Line
  pub is : piece ≡ spell (header ∷ lines) []
  pub are : AreLines (header ∷ lines) []
  pub no_feed : (slice_index next 0 == 10) ≡ false

written_by : (collection : Option ℕ) (piece next : List ℕ) (b : BlockRead) (z : Lined piece) → read_lines collection (texts z.lines) z.last next false ≡ Some b → (slice_index next 0 == 10) ≡ false → Written piece next
written_by collection piece next b z h none = by z.lines z.last z.is z.are h
  where
    by : (ls : List Line) (last : List ℕ) → piece ≡ spell ls last → AreLines ls last → read_lines collection (texts ls) last next false ≡ Some b → Written piece next
    by [] last is are h = absurd (cc h)
    by (l ∷ ls) a is are h = grind arith

pub written : (collection : Option ℕ) (piece next : List ℕ) (b : BlockRead) → block_read collection piece next ≡ Some b → is_at_end next ≡ false → Written piece next
written collection piece next b h e = grind (arith, written_by, lined piece, piece_has_line, split_spell)

-- ---- positions

first_of : (w : List ℕ) (k : Break) (a b : List ℕ) → (slice_index (w ++ put k a) 0 == 10) ≡ (slice_index (w ++ put k b) 0 == 10)
first_of [] d a b = grind arith
first_of (c ∷ w) k a b = refl

-- the lines are so before further text too
before_text : (ls : List Line) (next : List ℕ) → AreLines ls [] → (slice_index next 0 == 10) ≡ false → AreLines ls next
before_text [] next a h = tt
before_text (l ∷ ls) next a h = (a.0, grind (arith, same), before_text ls next a.2 h)
  where
    same : (ls : List Line) → (slice_index (spell ls []) 0 == 10) ≡ false → (slice_index (spell ls next) 0 == 10) ≡ false
    same [] k = h
    same (l ∷ ls) k = first_of l.text l.by (spell ls next) (spell ls []) ∙ k

-- before further text a piece ends where a line begins
pub ends_at_margin : (collection : Option ℕ) (piece next : List ℕ) (b : BlockRead) (p : Position) → block_read collection piece next ≡ Some b → is_at_end next ≡ false → (position_after p piece next).col ≡ 0
ends_at_margin collection piece next b p h e =
    let w : Written piece next = written collection piece next b h e in
    let ls : List Line = w.header ∷ w.lines in
    ap (λ x. (position_after p x next).col) w.is ∙ (ap (λ (q : Position). q.col) (after_spell ls [] next p (before_text ls next w.are w.no_feed)) ∙ lines_front w.lines (after_line w.header p) refl)

pub spaces_col : (p : Position) (a : List ℕ) → (past_spaces p a).col ≡ p.col + leading_spaces a
spaces_col p [] = omega arith
spaces_col p (c ∷ a) = grind (arith, nat_tests, eqb-true, space_past, spaces_col (position_past p c a) a)

-- ---- a scalar without content

none_from : (column : ℕ) (ls : List Line) (p : Position) → AreLines ls [] → are_empty column (texts ls) ≡ true → p.col ≡ 0 → first_content column false p (spell ls []) ≡ None
unfolding is_empty_line
none_from column [] p a h z = refl
none_from column (l ∷ ls) p a h z = grind (arith, and_parts, first_empty, none_from column ls (after_line l p) a.2)

-- ---- what follows

-- the scan is told the least column of a value as its indentation
abbrev pub IsLeast : (indent : ℕ) → List ℕ → Type 0
IsLeast indent bs = (collection_of indent ≡ innermost bs) × (least_column bs true ≡ indent)

module _ (indent column : ℕ) (p : Position) (b : BlockRead) (piece next : List ℕ) (bs : List ℕ) where
  -- before further text
  read_clear : IsLeast indent bs → block_read (collection_of indent) piece next ≡ Some b → is_at_end next ≡ false → is_tabbed piece next ≡ false → is_shallow indent p b piece next ≡ false → b.column ≡ column → read_may_end bs (block_read (innermost bs) piece next) piece next ≡ true
  read_clear l h e untabbed clear same =
      let w : Written piece next = written (collection_of indent) piece next b h e in
      let ls : List (List ℕ) = texts w.lines in
      let lines : (split piece).complete ≡ w.header.text ∷ ls = ap (λ x. (split x).complete) w.is ∙ ap (λ x. x.complete) (split_spell (w.header ∷ w.lines) [] w.are refl) in
      grind (arith, nat_tests, eqb-true, w, lines, l, h, ends_at_margin (collection_of indent) piece next b p h e, spaces_col (position_after p piece next) next, first_header, none_from, clear, untabbed)

-- A block scalar that was read, and was not refused for what stands after it, may end there.
pub block_clear : (indent : ℕ) (p : Position) (b : BlockRead) (piece next bs : List ℕ) → IsLeast indent bs → block_read (collection_of indent) piece next ≡ Some b → is_tabbed piece next ≡ false → is_shallow indent p b piece next ≡ false → block_may_end bs piece next ≡ true
block_clear indent p b piece next bs l h untabbed clear = grind (arith, block_read, read_clear)

-- ---- a scalar as it was read

-- What the scan of a block scalar read at a position: its piece, and the text after it.
pub record BlockAs (style : BlockStyle) (indent : ℕ) (p : Position) (text : List ℕ) (r : Read Block) : Type 0 where
  pub piece : List ℕ
  pub next : List ℕ
  pub scalar : BlockRead
  pub is_text : text ≡ piece ++ next
  pub is_read : block_read (collection_of indent) piece next ≡ Some scalar
  pub style_is : scalar.style ≡ style
  pub may_end : (bs : List ℕ) → IsLeast indent bs → block_may_end bs piece next ≡ true
  pub is : r ≡ read_block p scalar piece next

pub block_as : (style : BlockStyle) (indent : ℕ) (more : List ℕ) (p : Position) (r : Read Block) → has_no_nul more ≡ true → block (is_literal_style style) indent (indicator_of style ∷ more) p ≡ Ok r → BlockAs style indent p (indicator_of style ∷ more) r
block_as style indent more p r none e = elim (read_as e (scans_end style indent more p (some_chars more none))) [
  | whole_block piece next b it (read free clear same) ↦
      record { piece = piece; next = next; scalar = b; is_text = it.is_text; is_read = it.is_read; style_is = it.is_style; may_end = λ bs l. block_clear indent p b piece next bs l it.is_read free clear; is = same }
]
