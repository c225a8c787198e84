-- The whole scan of a block scalar whose lines are known.
use Rattle.proof_lexers.proofs.Common.{[], after_header, along, and_then, ap, append-nil, arith, At, begins_with, Block, block, block_position, BlockRead, breaks, cases_Bool, chomping_of, collection_of, Column, column_by, content_row, digit_or_zero, drop, empty_row, empty_text, Err, false, Fault, first_content, further_position, has_content, Header, header, header_of, indent_from, indicator_of, indicators_of, inl, inr, is_at_end, is_in_line, is_literal_style, is_open, is_spaces, is_tabbed, IsRead, le-ltb, length, Lines, lines_from, List, max, nat_le, nat_lt, nat_tests, None, Ok, past, past_spaces, Position, position_after, position_or, Read, read_header, reads, refl, refuses, Result, Row, rows_of, Some, sym, tab, tail, true, value_before_end, value_before_text, without_spaces, ℕ, ◌&&◌, ◌++◌, ◌+◌, ◌∙◌, ◌∷◌, ◌≡◌, ◌≤◌, Option, BlockScalarTab, and_false, both}
use Rattle.std.proofs.Math.Bool.{and_comm}
use Rattle.defs_text.specs.Classes as classes
use Rattle.defs_text.specs.BlockScalar as defs
use Rattle.model_scanner.specs.BlockScalar.{content}
use Rattle.proof_lexers.specs.BlockScan.{read, shallow, is_shallow}
use Rattle.proof_lexers.proofs.Blocks.First.{content_is}
use Rattle.proof_lexers.proofs.Blocks.Positions.{spell_more, after_chars, after_put, after_spell, first_header, header_alone, stopped_at, first_is}
use Rattle.proof_lexers.proofs.Blocks.Rows.{after_break, after_lines, after_rows, AreLines, at, before, Break, break_ends, col_along, Fits, front, is_content, IsRow, last_content, last_empty, last_passes, Line, lines_front, margin_passes, no_content, put, rows_go, spell, starts, texts, written}
use Rattle.proof_lexers.proofs.Blocks.Values.{Outside, further_stops, after_empty, content_value, empty_value, end_value, last_value, found_in, all_empty}
use Rattle.proof_lexers.proofs.Blocks.Headers.{header_reads, header_tabs, linebreak_put, said}

pub style_inner : (s : defs.BlockStyle) (line : List ℕ) → is_in_line line ≡ true → is_in_line (indicator_of s ∷ line) ≡ true
unfolding classes.is_break
style_inner s line h = grind arith

module _ (h : defs.Header) (line : List ℕ) (k : Break) (indent : ℕ) (p : Position) (is : header_of (indicator_of h.style ∷ line) ≡ Some h) (inner : is_in_line line ≡ true) where
  -- the position after the header's break
  abbrev pub start : Position
  start = after_break k (along line (past p))

  abbrev pub scanned : List ℕ → Result (Read Block) Fault
  scanned a = block (is_literal_style h.style) indent (indicator_of h.style ∷ (line ++ put k a)) p

  abbrev pub after : Read Column → Result (Read Block) Fault
  after r = after_header (is_literal_style h.style) indent p (record { indicators = indicators_of h; broken = true }) r

  pub block_is : (ms : List Line) (e : List ℕ) (column : ℕ) → column_by h.digit (collection_of indent) (texts ms ++ e ∷ []) ≡ column → AreLines ms e → is_in_line e ≡ true → Fits k (spell ms e) → begins_with tab (spell ms e) ≡ false
      → scanned (spell ms e) ≡ after (indent_from column (spell ms e) (at start []))
  unfolding block
  block_is ms e column same are last fits still = let own = said (indicator_of h.style) line h is in grind (arith, content, content_is, at, tab, linebreak_put, header_reads, break_ends, past)

  pub tab_fails : (a : List ℕ) → Fits k a → begins_with tab a ≡ true → scanned a ≡ Err (At BlockScalarTab p)
  unfolding block
  tab_fails a fits tab_here = grind (arith, tab, linebreak_put, content, header_tabs, break_ends)

  module _ (column : ℕ) where
    abbrev search : List ℕ → Read Column
    search a = indent_from column a (at start [])

    -- what the search stops at, if that is content of the column
    record Sees (a : List ℕ) : Type 0 where
      char : ℕ
      rest : List ℕ
      position : Position
      breaks_before : List ℕ
      in_column : position.col ≡ column
      found : search a ≡ record { rest = char ∷ rest; position = position; value = record { column = column; breaks = breaks_before } }

    in_position : (n : ℕ) → n ≡ column → (nat_lt n column && nat_le indent n) ≡ false
    in_position n e = let deep : nat_lt n column ≡ false = le-ltb n column (omega (arith, e)) in rw deep refl

    -- A scalar is read from where content was looked for up to its lines' end.
    reads_it : (b : BlockRead) (a piece next rest : List ℕ) (char : ℕ) (position q : Position) (e : List ℕ) (x : Lines)
        → is_tabbed piece next ≡ false → is_shallow indent p b piece next ≡ false → scanned a ≡ after (search a) → search a ≡ record { rest = char ∷ rest; position = position; value = record { column = column; breaks = e } }
        → (nat_lt position.col column && nat_le indent position.col) ≡ false → lines_from (is_literal_style h.style) column a (front start (after_empty 0)) ≡ Ok (record { rest = without_spaces next; position = q; value = x })
        → q ≡ further_position p piece next → block_position b.column p piece next ≡ position → x.text ++ tail (chomping_of h.chomping) (is_open column (without_spaces next) q.col) x ≡ b.text → IsRead indent p b piece next (scanned a)
    reads_it b a piece next rest char position q e x free outside by found deep to_end further where_is text =
        let same : lines_from (is_literal_style h.style) column (char ∷ rest) (before position (after_empty 0) e) ≡ Ok (record { rest = without_spaces next; position = q; value = x }) =
        ap (λ (r : Read Column). lines_from (is_literal_style h.style) column r.rest (before r.position (after_empty 0) r.value.breaks)) (sym found) ∙ sym (margin_passes (is_literal_style h.style) column a start (after_empty 0) []) ∙ to_end in
        reads _ (read free outside refl) (by ∙ ap after found ∙ rw (deep, same, text, ← where_is, ← further) refl)

  -- the text of a header's line and those after it
  abbrev pub with_header : List ℕ → List ℕ
  with_header a = indicator_of h.style ∷ (line ++ put k a)

  piece_first : (column : ℕ) (a : List ℕ) (r : Read Column) → Fits k a → indent_from column a (at start []) ≡ r → first_content column true p (with_header a) ≡ stopped_at r
  piece_first column a r fits e = first_header column (indicator_of h.style ∷ line) k a p (style_inner h.style line inner) fits ∙ first_is column a start [] ∙ ap stopped_at e

  -- the position after a header, lines, and a last line without a break
  piece_position : (ls : List Line) (last next : List ℕ) → AreLines ls (last ++ next) → Fits k (spell ls (last ++ next))
      → is_in_line last ≡ true → along last (after_lines ls start) ≡ position_after p (with_header (spell ls last)) next
  piece_position ls last next are fits last_inner = sym (
      after_chars (indicator_of h.style ∷ line) (put k (spell ls last)) next p (style_inner h.style line inner) ∙ after_put k (spell ls last) next (along line (past p)) (rw (spell_more ls last next) fits) ∙ after_spell ls last next start are
      ∙ ap (λ x. position_after (after_lines ls start) x next) (sym (append-nil last)) ∙ after_chars last [] next (after_lines ls start) last_inner
      )

  -- ---- before further text

  module _ (column : ℕ) (ls : List Line) (next : List ℕ) (rs : List Row) (are : AreLines ls next) (fits : Fits k (spell ls next)) (are_alone : AreLines ls []) (fits_alone : Fits k (spell ls []))
      (rows : rows_of column (texts ls) ≡ Some rs) (text : is_at_end next ≡ false) (free : is_tabbed (with_header (spell ls [])) next ≡ false)
      (found_by : scanned (spell ls next) ≡ after (indent_from column (spell ls next) (at start []))) where
    abbrev lines_read : Lines
    lines_read = after_rows (is_literal_style h.style) rs (after_empty 0)

    abbrev before_text : BlockRead
    before_text = record { style = h.style; column = column; text = value_before_text h rs }

    abbrev piece : List ℕ
    piece = with_header (spell ls [])

    read_to : Outside column next (after_lines ls start) → lines_from (is_literal_style h.style) column (spell ls next) (front start (after_empty 0)) ≡ Ok (record { rest = without_spaces next; position = past_spaces (after_lines ls start) next; value = lines_read })
    read_to z = rows_go (is_literal_style h.style) column ls next start (after_empty 0) rs refl are rows ∙ further_stops (is_literal_style h.style) column next (after_lines ls start) lines_read z

    closed : Outside column next (after_lines ls start) → (n : ℕ) → is_open column (without_spaces next) n ≡ false
    closed z n = rw (z.is) refl

    position_is : past_spaces (after_lines ls start) next ≡ further_position p piece next
    position_is = ap (λ q. past_spaces q next) (piece_position ls [] next are fits refl)

    -- where the piece's content begins, if the search in it ends so
    where_is : {o : Option Position} → first_content column true p piece ≡ o → block_position column p piece next ≡ position_or o (further_position p piece next)
    where_is e = rw (e, text) refl

    without_rows : has_content rs ≡ false → Outside column next (after_lines ls start)
        → IsRead indent p before_text piece next (scanned (spell ls next))
    without_rows none z =
        let here : z.position ≡ further_position p piece next = sym z.at_position ∙ position_is in
        let first : first_content column true p piece ≡ None =
        piece_first column (spell ls []) _ fits_alone (all_empty column ls [] start [] rs refl are_alone rows none) in
        let found : indent_from column (spell ls next) (at start []) ≡ record { rest = z.char ∷ z.rest; position = z.position; value = record { column = column; breaks = breaks (length rs) } } = all_empty column ls next start [] rs refl are rows none ∙ z.found (breaks (length rs)) in
        let is_here : is_shallow indent p before_text piece next ≡ (nat_lt z.position.col column && nat_le indent z.position.col) =
        rw (text, first, ← here) (and_comm (nat_le indent z.position.col) (nat_lt z.position.col column)) in
        elim (cases_Bool (nat_lt z.position.col column && nat_le indent z.position.col)) [
          | inl e ↦ refuses _ (shallow free (is_here ∙ e)) (found_by ∙ ap after found ∙ rw (e, here) refl)
          | inr e ↦ reads_it column before_text (spell ls next) piece next z.rest z.char z.position _ (breaks (length rs)) lines_read free (is_here ∙ e) found_by found e (read_to z) position_is (where_is first ∙ sym here)
              (ap (λ b. lines_read.text ++ tail (chomping_of h.chomping) b lines_read) (closed z _) ∙ empty_value h rs none ∙ rw none refl)
        ]

    pub before_further : Outside column next (after_lines ls start) → IsRead indent p before_text piece next (scanned (spell ls next))
    before_further z = elim (cases_Bool (has_content rs)) [
      | inl e ↦ let f = found_in column ls next start [] rs refl are rows e in let first : first_content column true p piece ≡ Some f.position = piece_first column (spell ls []) _ fits_alone (f.found [] are_alone) in
          reads_it column before_text (spell ls next) piece next (f.rest next) f.char f.position _ f.breaks_before lines_read free (rw first (grind arith))
          found_by (f.found next are) (in_position column f.position.col f.in_column) (read_to z) position_is (where_is first)
          (ap (λ b. lines_read.text ++ tail (chomping_of h.chomping) b lines_read) (closed z _) ∙ content_value h false rs e ∙ rw e refl)
      | inr e ↦ without_rows e z
    ]

  -- ---- at the end of the text

  module _ (column : ℕ) (ls : List Line) (last : List ℕ) (rs : List Row) (are : AreLines ls last) (last_inner : is_in_line last ≡ true) (fits : Fits k (spell ls last))
      (rows : rows_of column (texts ls) ≡ Some rs)
      (found_by : scanned (spell ls last) ≡ after (indent_from column (spell ls last) (at start []))) where
    abbrev rows_read : Lines
    rows_read = after_rows (is_literal_style h.style) rs (after_empty 0)

    abbrev before_end : Row → BlockRead
    before_end r = record { style = h.style; column = column; text = value_before_end h column rs last r }

    abbrev whole : List ℕ
    whole = with_header (spell ls last)

    abbrev last_position : Position
    last_position = after_lines ls start

    whole_position : along last last_position ≡ further_position p whole []
    whole_position = piece_position ls last [] (rw append-nil are) (rw append-nil fits) last_inner

    at_front : last_position.col ≡ 0
    at_front = lines_front ls start refl

    abbrev read_end : Row → Type 0
    read_end r = IsRead indent p (before_end r) whole [] (scanned (spell ls last))

    far : (along last last_position).col ≡ length last
    far = let e = at_front in let g : (along last last_position).col ≡ last_position.col + length last = col_along last last_position in omega (arith, e, g)

    -- lines with content, after the search for it
    content_by : (r : Row) (x : Lines) → Sees column (spell ls last) → lines_from (is_literal_style h.style) column (spell ls last) (front start (after_empty 0)) ≡ Ok (record { rest = []; position = along last last_position; value = x })
        → x.text ++ tail (chomping_of h.chomping) (is_open column [] (along last last_position).col) x ≡ (before_end r).text → read_end r
    content_by r x s to_end text =
        reads_it column (before_end r) (spell ls last) whole [] s.rest s.char s.position _ s.breaks_before x (and_false _) refl found_by s.found (in_position column s.position.col s.in_column) to_end whole_position
        (ap (λ o. position_or o p) (piece_first column (spell ls last) _ fits s.found)) text

    sees_before : has_content rs ≡ true → Sees column (spell ls last)
    sees_before some = let f = found_in column ls last start [] rs refl are rows some in record { char = f.char; rest = f.rest last; position = f.position; breaks_before = f.breaks_before; in_column = f.in_column; found = f.found last are }

    empty_none : has_content rs ≡ false → is_spaces last ≡ true → length last ≤ column → read_end empty_row
    empty_none none spaces le =
        let low : last_position.col + length last ≤ column = (let e = at_front in omega (arith, e, le)) in
        let found = all_empty column ls last start [] rs refl are rows none ∙ last_passes column last last_position (breaks (length rs)) spaces low in
        let where_is : block_position column p whole [] ≡ p = ap (λ o. position_or o p) (piece_first column (spell ls last) _ fits found) in
        reads _ (read (and_false _) refl refl) (found_by ∙ ap after found ∙ rw (none, where_is, ← whole_position, end_value h.chomping (length rs)) refl)

    -- a last line of content
    abbrev last_row : Row
    last_row = content_row (drop column last)

    abbrev last_read : Lines
    last_read = written (is_literal_style h.style) column last_row rows_read

    pub before_the_end : (r : Row) → IsRow column last r → read_end r
    before_the_end empty_row (no_content spaces le) = elim (cases_Bool (has_content rs)) [
      | inl e ↦ content_by empty_row rows_read (sees_before e)
          (rows_go (is_literal_style h.style) column ls last start (after_empty 0) rs refl are rows ∙ last_empty (is_literal_style h.style) column last last_position rows_read at_front spaces le)
          (ap (λ b. rows_read.text ++ tail (chomping_of h.chomping) b rows_read) (ap (λ n. nat_le column n && nat_lt 0 n) far ∙ both _ _ (λ e. grind (arith, nat_tests)) (λ e. grind (arith, nat_tests)))
          ∙ content_value h (nat_le (max column 1) (length last)) rs e ∙ rw e refl)
      | inr e ↦ empty_none e spaces le
    ]
    before_the_end (content_row m) (is_content lead long free) =
        let col : last_position.col + column ≡ column = (let e = at_front in omega (arith, e)) in
        let z = starts column column last last_position col lead long last_inner in
        let content_text : last_read.text ++ tail (chomping_of h.chomping) (is_open column [] (along last last_position).col) last_read ≡ value_before_end h column rs last last_row = let open_is : is_open column [] (along last last_position).col ≡ true = ap (λ n. nat_le column n && nat_lt 0 n) far ∙ (grind (arith, nat_tests)) in
        rw open_is (last_value h rs (drop column last)) in
        content_by last_row last_read (elim (cases_Bool (has_content rs)) [
          | inl e ↦ sees_before e
          | inr e ↦ record {
            char = z.char;
            rest = z.rest ++ [];
            position = z.position;
            breaks_before = breaks (length rs);
            in_column = z.in_column;
            found = all_empty column ls last start [] rs refl are rows e ∙ ap (λ a. indent_from column a (at last_position (breaks (length rs)))) (sym (append-nil last)) ∙ z.found [] (breaks (length rs));
          }
        ])
        (rows_go (is_literal_style h.style) column ls last start (after_empty 0) rs refl are rows ∙ last_content (is_literal_style h.style) column last last_position rows_read at_front last_inner lead long free) content_text

-- ---- a header at the end of the text

pub header_alone_is_read : (h : defs.Header) (line : List ℕ) (indent : ℕ) (p : Position) → header_of (indicator_of h.style ∷ line) ≡ Some h → is_in_line line ≡ true
    → IsRead indent p (record { style = h.style; column = 0; text = [] }) (indicator_of h.style ∷ line) [] (block (is_literal_style h.style) indent (indicator_of h.style ∷ line) p)
unfolding block content empty_text
header_alone_is_read h line indent p is inner =
    let q = along line (past p) in
    let i = digit_or_zero h.digit in
    let header_reads_it : header p line (past p) ≡ Ok (read_header h [] q) = ap (λ a. header p a (past p)) (sym (append-nil line)) ∙ header_reads h line [] p is inner refl refl in
    let ends : after_header (is_literal_style h.style) indent p (record { indicators = indicators_of h; broken = false }) (content indent i [] q) ≡ Ok (record { rest = []; position = q; value = record { position = p; text = [] } }) =
    grind (arith, nat_tests) in
    let position : q ≡ further_position p (indicator_of h.style ∷ line) [] =
    sym (ap (λ x. position_after p x []) (sym (append-nil (indicator_of h.style ∷ line))) ∙ after_chars (indicator_of h.style ∷ line) [] [] p (style_inner h.style line inner)) in
    let where_is : block_position 0 p (indicator_of h.style ∷ line) [] ≡ p = ap (λ o. position_or o p) (header_alone 0 (indicator_of h.style ∷ line) p (style_inner h.style line inner)) in
    reads _ (read (and_false _) refl refl) (ap (λ x. and_then x (λ (r : Read Header). after_header (is_literal_style h.style) indent p r.value (content indent r.value.indicators.increment r.rest r.position))) header_reads_it
    ∙ ends ∙ rw (where_is, ← position) refl)
