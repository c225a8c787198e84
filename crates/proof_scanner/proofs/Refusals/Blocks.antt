-- Faults of block scalars: the line is no header, or what stands after the scalar may not.
use Rattle.proof_scanner.proofs.Common.{Bool, ◌&&◌, is_none, [], after_chars, allow_key, and_parts, ap, append-nil, are_empty, AreLines, arith, Arrives, begins_with, block, block_first, block_read, BlockRead, BlockStyle, Break, collection_of, columns, Err, false, Fault, fetch_block_scalar, folded, has_no_nul, header_of, Held, if◌then◌else◌, indicator_of, innermost, is_at_end, is_break, is_empty, is_in_line, is_literal, is_literal_style, is_nul, is_shallow, is_tabbed, IsBlockFault, leading_spaces, List, literal, nat_le, nat_lt, nat_tests, no_block, no_nul_after, None, not, Option, past, Position, position_after, Problem, read_lines, refl, refused_as, ScannerState, Some, spell, spell_more, split, split_spell, style_inner, sym, tab, texts, true, unroll_non_block_indents, ℕ, ◌++◌, ◌∙◌, ◌∷◌, ◌≡◌, eqb-true, after_line, first_content, first_empty, first_header, further_position, is_empty_line, is_spaces, length, ◌+◌, ◌≤◌, BlockScalarHeader, BlockScalarIndentation, BlockScalarTab, BlockScalarZero, CommentNotSeparated}
use Rattle.std.proofs.lemmas.List.Folds.{list_all-append}
use Rattle.model_scanner.specs.declared.kind.BlockStyle.TheVariants.{Literal, Folded}
use Rattle.proof_lexers.proofs.Blocks.Written.{Line, put}
use Rattle.proof_scanner.proofs.Refusals.Common.{Faults, IsWhy, LiesDeep, Told, goes, looked_at, none_begins, read, saved_is, saved_keys, some_chars, stuck_by, without_is}
use Rattle.proof_scanner.proofs.Sound.BlockEnds.{IsLeast, Written, written, spaces_col, ends_at_margin}
use Rattle.proof_scanner.proofs.Refusals.TextsRefused.{header_alone}
use Rattle.model_scanner.specs.declared.kind.BlockStyle as kind
use Rattle.defs_text.specs.BlockScalar as defs
use Rattle.proof_lexers.specs.HeaderEnds as headers
use Rattle.proof_lexers.specs.BlockEnds as block_ends
use Rattle.proof_lexers.specs.BlockScan as scan
use Rattle.proof_lexers.proofs.Blocks.Ends as blocks
use Rattle.proof_scanner.specs.NoPiece as none

-- ---- a scalar without content

-- A line in which no content begins is of spaces alone, and ends at the column or left of it.
passed : (column : ℕ) (w y : List ℕ) (p : Position) → is_in_line w ≡ true → p.col ≤ column → first_content column false p (w ++ y) ≡ None → (is_spaces w ≡ true) × (p.col + length w ≤ column)
passed column [] y p inner low h = (refl, omega (arith, low))
passed column (c ∷ w) y p inner low h = grind (arith, passed column w y (past p))

none_is_empty : (column : ℕ) (ls : List Line) (p : Position) → AreLines ls [] → p.col ≡ 0 → first_content column false p (spell ls []) ≡ None → are_empty column (texts ls) ≡ true
unfolding is_empty_line
none_is_empty column [] p a z h = refl
none_is_empty column (l ∷ ls) p a z h = grind (arith, nat_tests, eqb-true, passed, first_empty, none_is_empty column ls (after_line l p) a.2 refl)

-- ---- what stands after it

-- the lines of a scalar that was written so
pub lines_written : (piece next : List ℕ) (w : Written piece next) → (split piece).complete ≡ w.header.text ∷ texts w.lines
lines_written piece next w = ap (λ x. (split x).complete) w.is ∙ ap (λ x. x.complete) (split_spell (w.header ∷ w.lines) [] w.are refl)

-- ---- texts

-- a fault that comes first
abbrev FirstFault : (collection : List ℕ) (here : Position) (text : List ℕ) (why : Problem) (at : Position) → Type 0
FirstFault collection here text why at = (x : IsBlockFault collection here text why at) × block_first collection here text why at x

-- ---- a TAB at the start of the line after a header

tab_fault : (collection : List ℕ) (here : Position) (text header next : List ℕ) (k : Break) (h : defs.Header) → text ≡ header ++ put k (tab ∷ next) → is_in_line header ≡ true → header_of header ≡ Some h → FirstFault collection here text BlockScalarTab here
tab_fault collection here text header next k h e inner is =
    let ls : List Line = record { text = header; by = k } ∷ [] in
    (none.by_tab (spell ls []) header next h (e ∙ sym (spell_more ls [] (tab ∷ next))) (split_spell ls [] (inner, (grind arith), tt) refl) is, tt)

-- the same by the piece that is the header
piece_tab_fault : (collection : List ℕ) (o : Option ℕ) (here : Position) (text piece next : List ℕ) (b : BlockRead) → text ≡ piece ++ next → block_read o piece next ≡ Some b → is_tabbed piece next ≡ true → FirstFault collection here text BlockScalarTab here
unfolding is_nul
piece_tab_fault collection o here text piece next b e is tabbed =
    let q = and_parts (scan.is_single (split piece).complete) (begins_with tab next) tabbed in
    let m : (m : List ℕ) × (next ≡ tab ∷ m) = grind arith in
    by m (split piece).complete (split piece).last refl q.0 (rw (ap is_at_end m.1) at is)
  where
    by : (m : List ℕ) × (next ≡ tab ∷ m) → (complete : List (List ℕ)) (last : List ℕ) → split piece ≡ record { complete = complete; last = last } → scan.is_single complete ≡ true → read_lines o complete last next false ≡ Some b
        → FirstFault collection here text BlockScalarTab here
    by m (l ∷ []) [] lines_are single read =
        let h : (h : defs.Header) × (header_of l ≡ Some h) = grind arith in
        (none.by_tab piece l m.0 h.0 (e ∙ ap (λ r. piece ++ r) m.1) lines_are h.1, tt)
    by m complete last lines_are single read = absurd (grind arith)

-- ---- what stands after a scalar without content

column_fault : (indent : ℕ) (bs : List ℕ) (here : Position) (text piece next : List ℕ) (b : BlockRead) → IsLeast indent bs → text ≡ piece ++ next → has_no_nul next ≡ true → block_read (collection_of indent) piece next ≡ Some b → is_tabbed piece next ≡ false → is_shallow indent here b piece next ≡ true
    → FirstFault bs here text BlockScalarIndentation (scan.further_position here piece next)
column_fault indent bs here text piece next b least e clean is untabbed low =
    (none.by_column piece w.header.text next (texts w.lines) b e read_here further (lines_written piece next w) empty (rw (least.1, ← column_is) parts.2) (rw (← column_is) parts.3), no_tab_fault)
  where
    parts : (is_at_end next ≡ false) × (is_none (first_content b.column true here piece) ≡ true) × (nat_le indent (further_position here piece next).col ≡ true) × (nat_lt (further_position here piece next).col b.column ≡ true)
    parts =
        let four : (x y z u : Bool) → (((not x && y) && z) && u) ≡ true → (x ≡ false) × (y ≡ true) × (z ≡ true) × (u ≡ true) = λ x y z u h. grind arith in
        four (is_at_end next) _ _ _ low

    further : is_at_end next ≡ false
    further = parts.0

    w : Written piece next
    w = written (collection_of indent) piece next b is further

    column_is : (further_position here piece next).col ≡ leading_spaces next
    column_is =
        let margin = ends_at_margin (collection_of indent) piece next b here is further in
        let spaces = spaces_col (position_after here piece next) next in
        omega (arith, margin, spaces)

    -- no content begins in it
    empty : are_empty b.column (texts w.lines) ≡ true
    empty = grind (arith, nat_tests, eqb-true, w, (parts.1), none_is_empty, first_header)

    read_here : block_read (innermost bs) piece next ≡ Some b
    read_here = ap (λ c. block_read c piece next) (sym least.0) ∙ is

    -- no TAB stands after the header
    no_tab_fault : (place : Position) → IsBlockFault bs here text BlockScalarTab place → ⊥
    no_tab_fault place (none.by_tab own header more h cut one has) =
        let alone = header_alone (innermost bs) header more own piece next b (sym e ∙ cut) one clean read_here in
        let tabbed : is_tabbed piece next ≡ true = rw (alone.0, alone.1, one) refl in
        cc (tabbed, untabbed)

-- ---- the scan

module _ {text : List ℕ} {t : ScannerState} (a : Arrives text t) (some : is_empty t.rest ≡ false) (lies : LiesDeep t) (out : is_empty t.held.flow ≡ true) where
  abbrev collections : List ℕ
  collections = columns t.held.indent t.held.indents

  least : (s : Held) → s ≡ record t.held { keys = saved_keys t.held } → IsLeast (unroll_non_block_indents (allow_key true s)).indent collections
  unfolding unroll_non_block_indents
  least s e = grind (arith, nat_tests, eqb-true, (without_is t.held.indent t.held.indents t.held.tokens a.are_levels))

  -- the block scalar that begins here may not stand
  block_stuck : (why : Problem) (at : Position) → FirstFault collections t.held.position t.rest why at → IsWhy text why at
  block_stuck why at x =
      stuck_by a some why at (λ b bs k. (l : b ≡ false) × (y : IsBlockFault bs t.held.position t.rest why at) × block_first bs t.held.position t.rest why at y) (ap not out, x.0, x.1)
      (λ c may m. record { fails = no_block m.0 m.1; is_first = (looked_at a some lies c [], m.2) })

  -- `|` or `>`
  header_told : (style : BlockStyle) (line after : List ℕ) → t.rest ≡ indicator_of style ∷ (line ++ after) → is_in_line line ≡ true → headers.ends_line after ≡ true → (g : Fault) → headers.IsHeaderRefusal t.held.position style line after g → Told text g
  unfolding is_break
  header_told style line after e inline ends g (headers.tabbed h is begins) =
      -- a break, and a TAB after it
      let f : (by : Break) × (more : List ℕ) × (after ≡ put by (tab ∷ more)) = grind arith in
      λ _. block_stuck BlockScalarTab t.held.position
      (tab_fault collections t.held.position t.rest (indicator_of style ∷ line) f.1 f.0 h (e ∙ ap (λ r. indicator_of style ∷ (line ++ r)) f.2) (style_inner style line inline) is)
  header_told style line after e inline ends g (headers.zero_digit lacks zero) =
      λ _. none_begins a some lies BlockScalarZero _ (none.headless style line after BlockScalarZero t.held.position (ap not out) e inline ends lacks (none.by_zero zero)) tt
  header_told style line after e inline ends g (headers.comment h before more lacks is cut) =
      let place : headers.along before (past t.held.position) ≡ position_after t.held.position (indicator_of style ∷ before) (35 ∷ more) =
      (sym (after_chars (indicator_of style ∷ before) [] (35 ∷ more) t.held.position (style_inner style before (and_parts (is_in_line before) (is_in_line (35 ∷ more)) (sym (list_all-append _ before (35 ∷ more)) ∙ (ap is_in_line (sym cut) ∙ inline))).0)) ∙ ap (λ w. position_after t.held.position w (35 ∷ more)) (append-nil (indicator_of style ∷ before))) in
      rw place (λ _. none_begins a some lies CommentNotSeparated _
      (none.headless style line after CommentNotSeparated _ (ap not out) e inline ends lacks (none.by_comment h before more is cut)) tt)
  header_told style line after e inline ends g (headers.no_header lacks zero more begins) =
      λ _. none_begins a some lies BlockScalarHeader _ (none.headless style line after BlockScalarHeader t.held.position (ap not out) e inline ends lacks (none.by_text zero more begins)) tt

  block_refused : (style : BlockStyle) (indent : ℕ) (more : List ℕ) → t.rest ≡ indicator_of style ∷ more → IsLeast indent collections → (f : Fault) → block (is_literal_style style) indent t.rest t.held.position ≡ Err f → Told text f
  block_refused style indent more e deep f k =
      by f (refused_as (ap (λ r. block (is_literal_style style) indent r t.held.position) (sym e) ∙ k) (blocks.scans_end style indent more t.held.position (some_chars more (no_nul_after (indicator_of style ∷ []) more (rw e at a.is_clean)))))
    where
      by : (g : Fault) → block_ends.IsBlockRefusal style indent t.held.position more g → Told text g
      by g (block_ends.bad_header line after cut inline ends why) = header_told style line after (e ∙ ap (λ r. indicator_of style ∷ r) cut) inline ends g why
      by g (block_ends.after_piece piece next b it (scan.shallow free low)) =
          λ _. block_stuck BlockScalarIndentation (scan.further_position t.held.position piece next)
          (column_fault indent collections t.held.position t.rest piece next b deep (e ∙ it.is_text) (no_nul_after piece next (rw (e ∙ it.is_text) at a.is_clean)) it.is_read free low)
      by g (block_ends.after_piece piece next b it (scan.tabbed begins)) =
          λ _. block_stuck BlockScalarTab t.held.position (piece_tab_fault collections (collection_of indent) t.held.position t.rest piece next b (e ∙ it.is_text) it.is_read begins)

  pub block_told : (style : kind.BlockStyle) (more : List ℕ) → t.rest ≡ (if is_literal style then 124 else 62) ∷ more → Faults (Told text) (fetch_block_scalar style t)
  unfolding fetch_block_scalar
  block_told Literal more e = read _ (block true _ t.rest t.held.position) _ (λ f k. block_refused literal _ more e (least _ (saved_is t.held)) f k) (λ x k. goes)
  block_told Folded more e = read _ (block false _ t.rest t.held.position) _ (λ f k. block_refused folded _ more e (least _ (saved_is t.held)) f k) (λ x k. goes)
