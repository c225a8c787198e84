-- Literal and folded blocks have rows: the pieces that they are, before what stands after them.
use Rattle.proof_loads.proofs.Common.{[], and_false, another, ap, append-nil, append_assoc, are_empty, AreEmptyLines, arith, begins_with, block_may_end, block_read, block_scalar, BlockStyle, Bool, collection_of, column_by, comment_line, content_row, empty_line, empty_row, false, feed, free, full, GapLine, has_content, indented_lines, indicator_of, innermost, is_at_end, is_blank, is_break, is_empty, is_further_text, is_in_line, is_nul, is_separation, IsGap, Line, List, map, map-append, nat_tests, None, not, Position, position_after, refl, Row, row_of, rows_of, Some, spaces, spell_append, spell_ending, spell_gap, spell_gap_line, spell_line, spell_lines, split, split_spell, starts_with_tab, Style, subst, suc, sym, texts, Tok, true, value_before_end, value_before_text, ℕ, ◌++◌, ◌<◌, ◌∙◌, ◌∷◌, ◌≡◌, tab, zero, All, All-append, All-pop, All-replicate, blank}
use Rattle.proof_lexers.proofs.Blocks.Written as written
use Rattle.proof_lexers.proofs.Blocks.Written.{spell}
use Rattle.proof_lexers.proofs.Blocks.Positions.{spell_more}
use Rattle.proof_loads.proofs.BlockLines.{line_of, lines_at, empties, texts_are, spelt_feeds, spelt_more, Last, last_of, row_by, row_spaces, content_append, header_by, text_value, spaces_value, last_value, header_line, block_text, header_inner, IsInside, IsBlockLine, a_blank, AreBlockLines, tab_more, in_column_with, header_is, is_block, are_each, header_none, content_last, outside}
use Rattle.proof_loads.proofs.HasRows.Nodes.{none_ends, Parts, From, outside_reads, Reads, at, HasNone}
use Rattle.proof_loads.proofs.HasRows.Json.{column_is}
use Rattle.proof_loads.proofs.HasRows.Trails.{over_break, ending_parts, here_gap, Trail, next, marker, end, marker_text, trail_text, BeginsContent, content_first, IsTrail, IsLow, After, Here}

-- what may stand directly after a block's last break: the end, or further text that begins with no TAB
pub data Next (column : ℕ) : List ℕ → Type 0 where
  at_end : Next column []
  at_text : (more_text : List ℕ) → is_at_end more_text ≡ false → is_further_text column more_text ≡ true → begins_with tab more_text ≡ false → Next column more_text

-- what a piece says that is a block before a text
pub record IsBlockPiece (bs : List ℕ) (style : BlockStyle) (text piece more_text : List ℕ) : Type 0 where
  pub column : ℕ
  pub read : block_read (innermost bs) piece more_text ≡ Some (record { style = style; column = column; text = text })
  pub may : block_may_end bs piece more_text ≡ true
  pub none : HasNone piece
  pub some : not (is_empty piece) ≡ true

-- ---- the step

abbrev pub token_of : BlockStyle → List ℕ → Tok
token_of BlockStyle.literal text = Tok.scalar Style.literal text
token_of BlockStyle.folded text = Tok.scalar Style.folded text

module _ (bs piece text whole more_text : List ℕ) (tokens : List Tok) (parts : Parts bs whole (piece ++ more_text)) where
  piece_reads : (s : BlockStyle) → IsBlockPiece bs s text piece more_text → ((p : Position) (awaits : Bool) → Reads (at (position_after p piece more_text) bs awaits block_scalar free []) more_text tokens)
      → From another bs [] whole (token_of s text ∷ tokens)
  piece_reads BlockStyle.literal z rest =
      outside_reads bs piece (Tok.scalar Style.literal text) whole more_text tokens parts z.none (λ s e. refl) free refl refl (λ p awaits l there. rw (none_ends bs _ there, column_is bs, z.read) (z.some, (refl, (z.column, refl, refl)))) z.may
      (λ must here l no line. grind arith) (λ deeper here colon l. refl) (λ here awaits there. rest here awaits)
  piece_reads BlockStyle.folded z rest =
      outside_reads bs piece (Tok.scalar Style.folded text) whole more_text tokens parts z.none (λ s e. refl) free refl refl (λ p awaits l there. rw (none_ends bs _ there, column_is bs, z.read) (z.some, (refl, (z.column, refl, refl)))) z.may
      (λ must here l no line. grind arith) (λ deeper here colon l. refl) (λ here awaits there. rest here awaits)

-- ---- what stands after a block

-- a text after a block's first break: empty lines, and what is read then
record Tail (column : ℕ) (bs text : List ℕ) (tokens : List Tok) : Type 0 where
  count : ℕ
  rest : List ℕ
  is : text ≡ spell (lines_at column (empties count)) rest
  follows : Next column rest
  reads : (p : Position) (awaits : Bool) → p.col ≡ 0 → Reads (at p bs awaits block_scalar free []) rest tokens

one_more : (column : ℕ) (bs text : List ℕ) (tokens : List Tok) → Tail column bs text tokens → Tail column bs (10 ∷ text) tokens
one_more column bs text tokens z = record { count = suc z.count; rest = z.rest; is = ap (λ x. 10 ∷ x) z.is; follows = z.follows; reads = z.reads }

module _ (column : ℕ) (bs : List ℕ) (tokens : List Tok) where
  gap_tail : (g : List GapLine) (d : ℕ) (r : List ℕ) → IsGap g → (column ≡ 0 → AreEmptyLines g) → Next column (spaces d r)
      → ((p : Position) (awaits : Bool) (text : List ℕ) → Here d text r p block_scalar free → Reads (at p bs awaits block_scalar free []) text tokens) → Tail column bs (spell_gap g (spaces d r)) tokens
  unfolding is_break is_nul
  gap_tail [] d r gap empty follows go = record { count = 0; rest = spaces d r; is = refl; follows = follows; reads = λ p awaits col. go p awaits _ (here_gap [] d r p block_scalar tt col) }
  gap_tail (empty_line ∷ g) d r gap empty follows go = one_more column bs (spell_gap g (spaces d r)) tokens (gap_tail g d r gap.1 (λ e. (empty e).1) follows go)
  gap_tail (comment_line text ∷ g) d r gap empty follows go =
      record { count = 0; rest = _; is = refl; follows = grind (arith, nat_tests, at_text); reads = λ p awaits col. go p awaits _ (here_gap (comment_line text ∷ g) d r p block_scalar gap col) }

  ending_tail : (l : GapLine) (g : List GapLine) → IsGap (l ∷ g) → (column ≡ 0 → AreEmptyLines (l ∷ g)) → ((p : Position) (awaits : Bool) (text : List ℕ) → is_separation false text [] ≡ true → HasNone text → Reads (at p bs awaits block_scalar free []) text tokens)
      → Tail column bs (spell_gap_line l (spell_ending g [])) tokens
  unfolding is_blank is_break is_nul
  ending_tail empty_line [] gap empty go = record { count = 0; rest = []; is = refl; follows = at_end; reads = λ p awaits col. go p awaits [] refl refl }
  ending_tail empty_line (m ∷ g) gap empty go = one_more column bs (spell_gap_line m (spell_ending g [])) tokens (ending_tail m g gap.1 (λ e. (empty e).1) go)
  ending_tail (comment_line text) g gap empty go =
      record { count = 0; rest = _; is = refl; follows = grind (arith, nat_tests, at_text); reads = λ p awaits col. let e = ending_parts (comment_line text ∷ g) gap in go p awaits _ e.0.0 e.0.1 }

-- what may stand after a block whose lines have this column
abbrev pub Follows : ℕ → Trail → Type 0
Follows column (next g d r) = (column ≡ 0 → ⊥) × Next column (spaces d r)
Follows column (marker g r) = (column ≡ 0 → AreEmptyLines g) × Next column (marker_text r)
Follows column (end g) = column ≡ 0 → AreEmptyLines g

-- text at a column that is less
further_at : (column n : ℕ) (r : List ℕ) → n < column → BeginsContent r → Next column (spaces n r)
unfolding is_blank is_break is_nul
further_at column n r low (content_first c x not_blank break hash nul) =
    at_text (spaces n (c ∷ x)) (starts n).0 (left column low) (starts n).1
  where
    starts : (n : ℕ) → (is_at_end (spaces n (c ∷ x)) ≡ false) × (begins_with tab (spaces n (c ∷ x)) ≡ false)
    starts zero = (grind (arith, nat_tests), grind (arith, nat_tests))
    starts (suc n) = (refl, refl)

    left : (column : ℕ) → n < column → is_further_text column (spaces n (c ∷ x)) ≡ true
    left zero h = absurd (omega (arith, h))
    left (suc m) h = outside (suc m) n c x h not_blank break nul

pub nested_follows : (c column : ℕ) (bs : List ℕ) (t : Trail) → c < column → IsTrail t → IsLow t (c ∷ bs) → Follows column t
unfolding is_blank is_break is_nul
nested_follows c column bs (next g d r) inside trail low = ((λ e. omega (arith, inside, e)), further_at column d r (omega (arith, inside, low)) trail.1)
nested_follows c column bs (marker g r) inside trail low = ((λ e. absurd (omega (arith, inside, e))), further_at column 0 (marker_text r) (omega (arith, inside)) (content_first 45 _ refl refl refl refl))
nested_follows c column bs (end g) inside trail low = λ e. absurd (omega (arith, inside, e))

-- ---- a block

-- lines of which one has content are not all empty
not_all_empty : (column : ℕ) (ls : List (List ℕ)) (rs : List Row) → rows_of column ls ≡ Some rs → has_content rs ≡ true → are_empty column ls ≡ false
unfolding row_of
not_all_empty column [] rs e h = grind arith
not_all_empty column (l ∷ ls) rs e h = grind (arith, not_all_empty column ls)

module _ (s : BlockStyle) (i column : ℕ) (strips : Bool) (text : List ℕ) (ls : List Line) (inside : IsInside i column) (h : AreBlockLines s column strips text ls) (bs : List ℕ) (same : innermost bs ≡ collection_of i) where
  abbrev header : written.Line
  header = record { text = indicator_of s ∷ header_line strips; by = feed }

  some : has_content (map row_by ls) ≡ true
  some = content_last ls h.ends

  -- the lines' column is theirs, and no TAB begins them, whatever lines stand after them
  in_column : (more : List (List ℕ)) → (column_by None (collection_of i) (indented_lines column ls ++ more) ≡ column) × (starts_with_tab (indented_lines column ls ++ more) ≡ false)
  in_column more = (in_column_with i column ls more inside h.begins h.lines, tab_more column ls more h.begins h.tabless)

  -- a block up to the end of the text, by its complete lines and its last
  ends_so : (ms : List Line) (l : List ℕ) (r : Row) (more : List (List ℕ)) → All (IsBlockLine column) ms → row_of column l ≡ Some r → is_in_line l ≡ true → HasNone l → texts (lines_at column ms) ++ l ∷ [] ≡ indented_lines column ls ++ more
      → value_before_end (header_by s strips) column (map row_by ms) l r ≡ text → IsBlockPiece bs s text (spell (header ∷ lines_at column ms) l) []
  ends_so ms l r more each row inner none lines value =
      let z = are_each column ms l each none in
      record {
        column = column;
        read = rw (
          same,
          split_spell (header ∷ lines_at column ms) l (header_inner s strips, tt, z.1) inner,
          header_is s strips,
          ap (column_by None (collection_of i)) lines ∙ (in_column more).0,
          ap starts_with_tab lines ∙ (in_column more).1,
          z.0,
          row,
        )
            (ap (λ t. Some (is_block s column t)) value);
        may = refl;
        none = header_none s strips (spell (lines_at column ms) l) z.2;
        some = refl;
      }

  -- ---- with empty lines after it
  module _ (n : ℕ) where
    abbrev all_lines : List Line
    all_lines = ls ++ empties n

    abbrev piece : List ℕ
    piece = spell (header ∷ lines_at column all_lines) []

    each : All (IsBlockLine column) all_lines
    each = All-append (IsBlockLine column) ls (empties n) h.each (All-replicate (IsBlockLine column) n (blank 0) (a_blank column 0 (omega arith)))

    all_texts : texts (lines_at column all_lines) ≡ indented_lines column ls ++ indented_lines column (empties n)
    all_texts = texts_are column all_lines ∙ map-append (λ l. spell_line column l []) ls (empties n)

    all_rows : rows_of column (texts (lines_at column all_lines)) ≡ Some (map row_by ls ++ map row_by (empties n))
    all_rows = (are_each column all_lines [] each refl).0 ∙ ap Some (map-append row_by ls (empties n))

    is_split : split piece ≡ record { complete = texts (header ∷ lines_at column all_lines); last = [] }
    is_split = split_spell (header ∷ lines_at column all_lines) [] (header_inner s strips, tt, (are_each column all_lines [] each refl).1) refl

    spelt_all : (more_text : List ℕ) → block_text s strips (spell_lines column ls (10 ∷ spell (lines_at column (empties n)) more_text)) ≡ piece ++ more_text
    spelt_all more_text = grind (arith, nat_tests, block_text, strips, spelt_feeds, column, ls, spell, lines_at, empties, spell_append, map-append, line_of, spell_more, header, all_lines)

    block_piece : (more_text : List ℕ) → Next column more_text → IsBlockPiece bs s text piece more_text
    block_piece [] at_end =
        let more = indented_lines column (empties n) ++ [] ∷ [] in
        let lines : texts (lines_at column all_lines) ++ [] ∷ [] ≡ indented_lines column ls ++ more = rw all_texts (append_assoc (indented_lines column ls) (indented_lines column (empties n)) ([] ∷ [])) in
        let value = ap (λ rs. value_before_end (header_by s strips) column rs [] empty_row) (map-append row_by ls (empties n)) ∙ spaces_value s strips column (map row_by ls) n 0 some (omega arith) ∙ h.value in
        ends_so all_lines [] empty_row more each (row_spaces column 0 (omega arith)) refl refl lines value
    block_piece more_text (at_text further some_text is_further tabless) =
        let value = text_value s strips (map row_by ls) n some ∙ h.value in
        let known = in_column (indented_lines column (empties n)) in
        let read : block_read (innermost bs) piece more_text ≡ Some (is_block s column text) =
        rw (same, is_split, some_text, header_is s strips, ap (column_by None (collection_of i)) all_texts ∙ known.0, some_text, is_further, ap starts_with_tab all_texts ∙ known.1, all_rows) (ap (λ t. Some (is_block s column t)) value) in
        let content = not_all_empty column (texts (lines_at column all_lines)) _ all_rows (rw (content_append, some) refl) in
        record { column = column; read = read; may = rw (read, is_split, content, tabless, some_text, and_false (is_empty (texts (lines_at column all_lines)))) refl; none = header_none s strips (spell (lines_at column all_lines) []) (are_each column all_lines [] each refl).2; some = refl }

    -- a line begins after it
    piece_column : (more_text : List ℕ) (p : Position) → (position_after p piece more_text).col ≡ 0
    piece_column more_text p = let q = over_break (indicator_of s ∷ header_line strips) (spell (lines_at column all_lines) []) more_text p in rw (q.1) (over_lines all_lines q.0 q.2)
      where
        over_lines : (ms : List Line) (p : Position) → p.col ≡ 0 → (position_after p (spell (lines_at column ms) []) more_text).col ≡ 0
        over_lines [] p e = e
        over_lines (l ∷ ms) p e = let q = over_break (spell_line column l []) (spell (lines_at column ms) []) more_text p in rw (q.1) (over_lines ms q.0 q.2)

  -- ---- up to the end of the text, in its last line
  abbrev end_of : Last ls
  end_of = last_of ls h.ends

  abbrev last_text : List ℕ
  last_text = spell_line column (full end_of.last) []

  abbrev last_piece : List ℕ
  last_piece = spell (header ∷ lines_at column end_of.init) last_text

  block_ends : IsBlockPiece bs s text last_piece []
  block_ends =
      let q = All-pop (IsBlockLine column) ls end_of.init (Some (full end_of.last)) end_of.is h.each in
      let lines = ap (λ x. x ++ last_text ∷ []) (texts_are column end_of.init) ∙ sym (map-append (λ l. spell_line column l []) end_of.init (full end_of.last ∷ [])) ∙ ap (indented_lines column) (sym end_of.is) ∙ sym (append-nil _) in
      let rows : map row_by end_of.init ++ content_row end_of.last ∷ [] ≡ map row_by ls =
      cc (map-append row_by end_of.init (full end_of.last ∷ []), end_of.is) in
      let value = last_value s strips column (map row_by end_of.init) (content_row end_of.last) last_text refl ∙ ap (value_before_text (header_by s strips)) rows ∙ h.value in
      ends_so end_of.init last_text (content_row end_of.last) [] q.0 q.1.row q.1.inner q.1.none lines value

  last_spelt : block_text s strips (spell_lines column ls []) ≡ last_piece ++ []
  last_spelt = ap (λ x. block_text s strips x) (ap (λ l. spell_lines column l []) end_of.is ∙ spelt_more column end_of.init (full end_of.last ∷ []) [] ∙ spelt_feeds column end_of.init last_text) ∙ sym (append-nil last_piece)

  -- ---- before a trail
  module _ (tokens : List Tok) (whole : List ℕ) where
    by_tail : (x : List ℕ) → Tail column bs x tokens → Parts bs whole (block_text s strips (spell_lines column ls (10 ∷ x))) → From another bs [] whole (token_of s text ∷ tokens)
    by_tail x t parts =
        piece_reads bs (piece t.count) text whole t.rest tokens (subst (Parts bs whole) (ap (λ y. block_text s strips (spell_lines column ls (10 ∷ y))) t.is ∙ spelt_all t.count t.rest) parts) s
        (block_piece t.count t.rest t.follows) (λ p awaits. t.reads _ awaits (piece_column t.count t.rest p))

    pub block_is_read : (t : Trail) → Parts bs whole (block_text s strips (spell_lines column ls (trail_text t))) → IsTrail t → Follows column t → After t bs tokens → From another bs [] whole (token_of s text ∷ tokens)
    block_is_read (next g d r) parts trail follows rest =
        by_tail (spell_gap g (spaces d r)) (gap_tail column bs tokens g d r trail.0 (λ e. absurd (follows.0 e)) follows.1 (λ p awaits x here. rest [] p awaits block_scalar free x tt here)) parts
    block_is_read (marker g r) parts trail follows rest =
        by_tail (spell_gap g (marker_text r)) (gap_tail column bs tokens g 0 (marker_text r) trail follows.0 follows.1 (λ p awaits x here. rest [] p awaits block_scalar free x tt here)) parts
    block_is_read (end []) parts trail follows rest =
        piece_reads bs last_piece text whole [] tokens (subst (Parts bs whole) last_spelt parts) s block_ends (λ p awaits. rest [] _ awaits block_scalar free [] tt (refl, refl, refl))
    block_is_read (end (m ∷ g)) parts trail follows rest =
        by_tail (spell_gap_line m (spell_ending g [])) (ending_tail column bs tokens m g trail follows (λ p awaits x separates none. rest [] p awaits block_scalar free x tt (separates, refl, none))) parts
