-- Each piece that is a block scalar is read as it, and each scan of one ends as its text says.
use Rattle.proof_lexers.proofs.Common.{[], ap, append-nil, arith, begins_with, block, block_read, BlockRead, cases_Bool, cases_Option, inl, inr, BlockScansEndAsTheirTextSays, BlockStyle, body, collection_of, column_by, ends_line, EndsAs, false, first_line, further_text, header, header_of, indicator_of, is_at_end, is_further_text, is_in_line, is_literal_style, is_some, IsHeaderRead, IsHeaderRefusal, IsRead, leading_spaces, linebreak, List, list_all, None, Option, or_parts, past, Position, Read, read_body, read_lines, read_split, reads, refl, refuses, Row, rows_of, Some, starts_with_tab, subst, sym, tab, true, unbroken, value_before_end, value_before_text, whole_header, ℕ, ◌++◌, ◌==◌, ◌||◌, ◌∙◌, ◌∷◌, ◌≡◌, and_parts, BlockPiecesAreRead, Body, Bool, further_is_no_break, indent_from, input_ends, is_single, is_tabbed, not, not-true, row_of, slice_index, Split, split, ◌&&◌, nat_tests, is_nul}
use Rattle.defs_text.specs.BlockScalar as defs
use Rattle.proof_lexers.specs.BlockEnds.{IsBlockPiece, IsBlockRead, IsBlockRefusal, whole_block, after_piece, bad_header}
use Rattle.proof_lexers.proofs.Ends.{ends_also}
use Rattle.proof_lexers.proofs.Blocks.Headers.{headers_end, said, linebreak_put}
use Rattle.proof_lexers.proofs.Blocks.Positions.{spell_more}
use Rattle.proof_lexers.proofs.Blocks.Rows.{after_lines, AreLines, at, Break, break_ends, first_inner, Fits, Line, lined, lines_front, put, row_is, spell, split_spell, texts}
use Rattle.proof_lexers.proofs.Blocks.Columns.{first_before, first_left, same_column, spell_append, are_parts, are_append}
use Rattle.proof_lexers.proofs.Blocks.Values.{of_line, stops, ends, walked, further_outside}
use Rattle.proof_lexers.proofs.Blocks.Scans.{style_inner, start, after, block_is, tab_fails, before_further, before_the_end, header_alone_is_read}
use Rattle.proof_lexers.proofs.Blocks.First.{least_is}
use Rattle.proof_lexers.specs.BlockScan.{tabbed}

-- ---- a TAB after the header

pub tab_line : (w a : List ℕ) (k : Break) (ls : List (List ℕ)) → begins_with tab (w ++ put k a) ≡ starts_with_tab (w ∷ ls)
tab_line b a k ls = grind (arith, nat_tests)

pub tab_whole : (ls : List Line) (e : List ℕ) → begins_with tab (spell ls e) ≡ starts_with_tab (texts ls ++ e ∷ [])
tab_whole [] e = grind arith
tab_whole (l ∷ ls) e = tab_line l.text (spell ls e) l.by (texts ls ++ e ∷ [])

tab_lines : (line : List ℕ) (ls : List Line) (next : List ℕ) → begins_with tab (spell ls next) ≡ (starts_with_tab (texts ls) || (is_single (line ∷ texts ls) && begins_with tab next))
tab_lines line [] next = refl
tab_lines line (l ∷ ls) next = grind (arith, tab_line)

-- ---- further text begins with no line feed, and is not the end

fits_next : (k : Break) (next : List ℕ) → (slice_index next 0 == 10) ≡ false → Fits k next
fits_next k next h = grind arith

fits_line : (k m : Break) (w a b : List ℕ) → Fits k (w ++ put m a) → Fits k (w ++ put m b)
fits_line k m [] a b h = grind (arith, nat_tests)
fits_line k m (c ∷ w) a b h = grind arith

pub fits_before : (k : Break) (ls : List Line) (a b : List ℕ) → Fits k b → Fits k (spell ls a) → Fits k (spell ls b)
fits_before k [] a b fits h = fits
fits_before k (l ∷ ls) a b fits h = fits_line k l.by l.text (spell ls a) (spell ls b) h

pub are_before : (ls : List Line) (a b : List ℕ) → ((k : Break) → Fits k b) → AreLines ls a → AreLines ls b
are_before [] a b fits are = tt
are_before (l ∷ ls) a b fits are = (are.0, fits_before l.by ls a b (fits l.by) are.1, are_before ls a b fits are.2)

-- the column is that of the whole text
pub whole_column : (digit : Option ℕ) (indent : ℕ) (ls ns : List Line) (e : List ℕ) (column : ℕ) → AreLines ns e → is_in_line e ≡ true → column_by digit (collection_of indent) (texts ls) ≡ column → is_further_text column (spell ns e) ≡ true
    → column_by digit (collection_of indent) (texts (ls ++ ns) ++ e ∷ []) ≡ column
whole_column digit indent ls ns e column are inner same further =
    let z = first_before column ns e are inner further in
    same_column digit (collection_of indent) ls ns e z.written (rw same z.start) ∙ same

-- ---- before further text

module _ (indent : ℕ) (p : Position) (next : List ℕ) where
  -- what a piece before further text is, by its column
  record Before (h : defs.Header) (column : ℕ) (ls : List (List ℕ)) (b : BlockRead) : Type 0 where
    rows : List Row
    are_rows : rows_of column ls ≡ Some rows
    tabless : starts_with_tab ls ≡ false
    further : is_further_text column next ≡ true
    value : record { style = h.style; column = column; text = value_before_text h rows } ≡ b

  module _ (h : defs.Header) (line : List ℕ) (k : Break) (ls : List Line) (b : BlockRead) (is : header_of (indicator_of h.style ∷ line) ≡ Some h) (inner : is_in_line line ≡ true)
      (fits : Fits k (spell ls [])) (are : AreLines ls []) (not_end : is_at_end next ≡ false) (z : Before h (column_by h.digit (collection_of indent) (texts ls)) (texts ls) b) where
    abbrev column_here : ℕ
    column_here = column_by h.digit (collection_of indent) (texts ls)

    free : (slice_index next 0 == 10) ≡ false
    free = grind (arith, nat_tests, further_is_no_break)

    tabbed_is : is_tabbed (indicator_of h.style ∷ (line ++ put k (spell ls []))) next ≡ begins_with tab (spell ls next)
    tabbed_is =
        ap (λ (s : Split). is_single s.complete && begins_with tab next) (split_spell (record { text = indicator_of h.style ∷ line; by = k } ∷ ls) [] (style_inner h.style line inner, fits, are) refl) ∙ sym (rw z.tabless at (tab_lines (indicator_of h.style ∷ line) ls next))

    further_read : IsRead indent p b (indicator_of h.style ∷ (line ++ put k (spell ls []))) next (block (is_literal_style b.style) indent ((indicator_of h.style ∷ (line ++ put k (spell ls []))) ++ next) p)
    further_read =
        let cut : (indicator_of h.style ∷ (line ++ put k (spell ls []))) ++ next ≡ indicator_of h.style ∷ (line ++ put k (spell ls next)) = spell_more (record { text = indicator_of h.style ∷ line; by = k } ∷ ls) [] next in
        let y = lined next in
        let same : spell (ls ++ y.lines) y.last ≡ spell ls next = spell_append ls y.lines y.last ∙ ap (spell ls) (sym y.is) in
        let fits_there : Fits k (spell ls next) = fits_before k ls [] next (fits_next k next free) fits in
        let are_next : AreLines ls next = are_before ls [] next (λ k. fits_next k next free) are in
        let are_parts : AreLines ls (spell y.lines y.last) = subst (AreLines ls) y.is are_next in
        let here : is_further_text column_here (spell y.lines y.last) ≡ true = ap (is_further_text column_here) (sym y.is) ∙ z.further in
        rw (cut, ← z.value) (elim (cases_Bool (begins_with tab (spell ls next))) [
          | inl e ↦ refuses _ (tabbed (tabbed_is ∙ e)) (tab_fails h line k indent p is inner (spell ls next) fits_there e)
          | inr e ↦
              let found : block (is_literal_style h.style) indent (indicator_of h.style ∷ (line ++ put k (spell ls next))) p ≡ _ =
              ap (λ a. block (is_literal_style h.style) indent (indicator_of h.style ∷ (line ++ put k a)) p) (sym same)
              ∙ block_is h line k indent p is inner (ls ++ y.lines) y.last column_here (whole_column h.digit indent ls y.lines y.last column_here y.are y.inner refl here) (are_append ls y.lines y.last are_parts y.are) y.inner (rw same fits_there) (rw same e)
              ∙ ap (λ a. after h line k indent p is inner (indent_from column_here a (at (start h line k indent p is inner) []))) same in
              before_further h line k indent p is inner column_here ls next z.rows are_next fits_there are fits z.are_rows not_end (tabbed_is ∙ e) found
              (further_outside column_here next (after_lines ls (start h line k indent p is inner)) (lines_front ls (start h line k indent p is inner) refl) z.further)
        ])

-- ---- at the end of the text

module _ (indent : ℕ) (p : Position) where
  record AtEnd (h : defs.Header) (column : ℕ) (ls : List (List ℕ)) (last : List ℕ) (b : BlockRead) : Type 0 where
    rows : List Row
    are_rows : rows_of column ls ≡ Some rows
    row : Row
    is_row : row_of column last ≡ Some row
    tabless : starts_with_tab (ls ++ last ∷ []) ≡ false
    value : record { style = h.style; column = column; text = value_before_end h column rows last row } ≡ b

-- ---- each piece

pub some_next : (d : ℕ) (n : List ℕ) → list_all is_some (d ∷ n) ≡ true → is_at_end (d ∷ n) ≡ false
unfolding is_nul
some_next d n h = not-true _ ((and_parts (not (d == 0)) (list_all is_some n) h).0)

-- a piece's first line is a header
data Headed : List ℕ → Type 0 where
  heads : (h : defs.Header) (line : List ℕ) → header_of (indicator_of h.style ∷ line) ≡ Some h → is_in_line line ≡ true → Headed (indicator_of h.style ∷ line)

headed : (indent : ℕ) (w : List ℕ) (content : Body) (next : List ℕ) (b : BlockRead) → is_in_line w ≡ true → read_body (header_of w) (collection_of indent) content next ≡ Some b → Headed w
headed indent [] content next b inner e = cc
headed indent (c ∷ line) content next b inner e = elim (cases_Option (header_of (c ∷ line))) [
  | inl f ↦ let no : None ≡ Some b = rw f at e in cc
  | inr h ↦ let z = said c line h.0 h.1 in let begins = z.begins in rw begins (heads h.0 line (rw (← begins) h.1) (first_inner c line inner).1)
]

module _ (indent : ℕ) (p : Position) (b : BlockRead) where
  abbrev pub Read_as : List ℕ → List ℕ → Type 0
  Read_as piece next = IsRead indent p b piece next (block (is_literal_style b.style) indent (piece ++ next) p)

  read_alone : (w : List ℕ) → Headed w → read_body (header_of w) (collection_of indent) input_ends [] ≡ Some b → Read_as w []
  read_alone _ (heads h line is inner) e =
      let same : record { style = h.style; column = 0; text = [] } ≡ b = cc (e, is) in rw (append-nil, ← same) (header_alone_is_read h line indent p is inner)

  to_end : (w : List ℕ) (k : Break) (ls : List Line) (last : List ℕ) → Headed w → Fits k (spell ls last) → AreLines ls last → is_in_line last ≡ true
      → read_body (header_of w) (collection_of indent) (body (texts ls) (unbroken last)) [] ≡ Some b → Read_as (w ++ put k (spell ls last)) []
  to_end _ k ls last (heads h line is inner) fits are last_inner e =
      let K = column_by h.digit (collection_of indent) (texts ls ++ last ∷ []) in
      let told = rw is at e in
      let z : AtEnd indent p h K (texts ls) last b = grind (arith, told) in
      let found = block_is h line k indent p is inner ls last K refl are last_inner fits (tab_whole ls last ∙ z.tabless) in
      rw (append-nil, ← z.value) (before_the_end h line k indent p is inner K ls last z.rows are last_inner fits z.are_rows found z.row (row_is K last z.row z.is_row))

  read_to_text : (w : List ℕ) (k : Break) (ls : List Line) (next : List ℕ) → Headed w → Fits k (spell ls []) → AreLines ls [] → is_at_end next ≡ false
      → read_body (header_of w) (collection_of indent) (body (texts ls) further_text) next ≡ Some b → Read_as (w ++ put k (spell ls [])) next
  read_to_text _ k ls next (heads h line is inner) fits are some e =
      let told = rw (is, some) at e in
      let z : Before indent p next h (column_by h.digit (collection_of indent) (texts ls)) (texts ls) b = grind (arith, told) in
      further_read indent p next h line k ls b is inner fits are some z

  read_of_lines : (ls : List Line) (last next : List ℕ) → AreLines ls last → is_in_line last ≡ true → list_all is_some next ≡ true → (t : Bool) → is_at_end next ≡ t
      → read_lines (collection_of indent) (texts ls) last next t ≡ Some b → Read_as (spell ls last) next
  read_of_lines [] last [] are inner some true x e = read_alone last (headed indent last _ [] b inner e) e
  read_of_lines (l ∷ ls) last [] are inner some true x e = to_end l.text l.by ls last (headed indent l.text _ [] b are.0 e) are.1 are.2 inner e
  read_of_lines ls last [] are inner some false x e = let no : true ≡ false = x in cc
  read_of_lines ls last (d ∷ n) are inner some true x e = let no : false ≡ true = sym (some_next d n some) ∙ x in cc
  read_of_lines (l ∷ ls) [] (d ∷ n) are inner some false x e = read_to_text l.text l.by ls (d ∷ n) (headed indent l.text _ (d ∷ n) b are.0 e) are.1 are.2 x e
  read_of_lines _ last (d ∷ n) are inner some false x e = cc

pub pieces_are_read : BlockPiecesAreRead
pieces_are_read indent piece next p b some e =
    let z = lined piece in
    let cut : split piece ≡ record { complete = texts z.lines; last = z.last } = ap split z.is ∙ split_spell z.lines z.last z.are z.inner in
    let lines : read_lines (collection_of indent) (texts z.lines) z.last next (is_at_end next) ≡ Some b = ap (λ s. read_split (collection_of indent) s next) (sym cut) ∙ e in
    subst (λ x. Read_as indent p b x next) (sym z.is) (read_of_lines indent p b z.lines z.last next z.are z.inner some (is_at_end next) refl lines)

-- the column of a piece is that of the whole text
part_column : (digit : Option ℕ) (indent : ℕ) (ls ns : List Line) (e : List ℕ) → AreLines ns e → is_in_line e ≡ true → is_further_text (column_by digit (collection_of indent) (texts (ls ++ ns) ++ e ∷ [])) (spell ns e) ≡ true
    → column_by digit (collection_of indent) (texts (ls ++ ns) ++ e ∷ []) ≡ column_by digit (collection_of indent) (texts ls)
part_column (Some d) indent ls ns e are inner further = refl
part_column None indent ls ns e are inner further =
    let w = first_line (texts ns) e in
    let z = first_before (column_by None (collection_of indent) (texts (ls ++ ns) ++ e ∷ [])) ns e are inner further in
    let least = least_is (leading_spaces w) in
    let same = same_column None (collection_of (leading_spaces w)) ls ns e z.written (omega (arith, least)) in
    let left = first_left (column_by None (collection_of indent) (texts (ls ++ ns) ++ e ∷ [])) w z in
    omega (arith, least, same, left)

-- ---- the two ends

pub style_same : (s t : BlockStyle) → indicator_of s ≡ indicator_of t → s ≡ t
style_same s t e = grind arith

module _ (style : BlockStyle) (indent : ℕ) (p : Position) where
  abbrev Ends : List ℕ → Type 0
  Ends text = EndsAs (IsBlockRead style indent p text) (IsBlockRefusal style indent p text) (block (is_literal_style style) indent (indicator_of style ∷ text) p)

  by_header : (line after : List ℕ) → is_in_line line ≡ true → ends_line after ≡ true → EndsAs (IsHeaderRead p style line after) (IsHeaderRefusal p style line after) (header p (line ++ after) (past p))
      → ((h : defs.Header) → header_of (indicator_of style ∷ line) ≡ Some h → begins_with tab (linebreak after p).rest ≡ false → Ends (line ++ after)) → Ends (line ++ after)
  unfolding block
  by_header line after inner at_end (reads r (whole_header h f t) e) go = go h f t
  by_header line after inner at_end (refuses f why e) go = refuses f (bad_header line after refl inner at_end why) (rw e refl)

  -- a piece that is a block scalar
  found : (text piece next line value : List ℕ) (h : defs.Header) (column : ℕ) → header_of (indicator_of style ∷ line) ≡ Some h → indicator_of style ∷ text ≡ piece ++ next → list_all is_some next ≡ true
      → block_read (collection_of indent) piece next ≡ Some (record { style = h.style; column = column; text = value }) → Ends text
  found text piece next line value h column is cut some reads_so =
      let b : BlockRead = record { style = h.style; column = column; text = value } in
      let own : h.style ≡ style = sym (style_same style h.style (said (indicator_of style) line h is).begins) in
      let so : IsRead indent p b piece next (block (is_literal_style style) indent (indicator_of style ∷ text) p) =
      rw (cut, ← own) (pieces_are_read indent piece next p b some reads_so) in
      let here : IsBlockPiece style indent text piece next b = record { is_text = cut; is_read = reads_so; is_style = own } in
      ends_also (λ r read. whole_block piece next b here read) (λ f why. after_piece piece next b here why) so

  -- a header alone
  alone : (line : List ℕ) → is_in_line line ≡ true → Ends (line ++ [])
  alone line inner = by_header line [] inner refl (headers_end style line [] p inner refl) (λ h is t.
      found (line ++ []) (indicator_of style ∷ line) [] line [] h 0 is refl refl (ap (λ s. read_split (collection_of indent) s []) (split_spell [] (indicator_of style ∷ line) tt (style_inner style line inner)) ∙ rw is refl))

  -- ---- lines after a header

  module _ (line : List ℕ) (k : Break) (ls : List Line) (last : List ℕ) (inner : is_in_line line ≡ true) (fits : Fits k (spell ls last)) (are : AreLines ls last) (last_inner : is_in_line last ≡ true)
      (h : defs.Header) (is : header_of (indicator_of style ∷ line) ≡ Some h) (tabless : begins_with tab (spell ls last) ≡ false) (some : list_all is_some (spell ls last) ≡ true) where
    abbrev column : ℕ
    column = column_by h.digit (collection_of indent) (texts ls ++ last ∷ [])

    to_text : (own ns : List Line) (rs : List Row) → ls ≡ own ++ ns → rows_of column (texts own) ≡ Some rs → is_further_text column (spell ns last) ≡ true → list_all is_some (spell ns last) ≡ true → Ends (line ++ put k (spell ls last))
    to_text own ns rs split_at rows further some_next_text =
        let not_end : is_at_end (spell ns last) ≡ false = grind (arith, some_next) in
        let joined : spell ls last ≡ spell own (spell ns last) = ap (λ x. spell x last) split_at ∙ spell_append own ns last in
        let parts = are_parts own ns last (rw (← split_at) are) in
        let column_is : column ≡ column_by h.digit (collection_of indent) (texts (own ++ ns) ++ last ∷ []) = ap (λ x. column_by h.digit (collection_of indent) (texts x ++ last ∷ [])) split_at in
        let same : column ≡ column_by h.digit (collection_of indent) (texts own) = column_is ∙ part_column h.digit indent own ns last parts.1 last_inner (rw (← column_is) further) in
        let fits_own : Fits k (spell own []) = fits_before k own (spell ns last) [] (fits_next k [] refl) (rw (← joined) fits) in
        let still = sym (tab_lines (indicator_of style ∷ line) own (spell ns last)) ∙ rw (← joined) tabless in
        let tab_free = (or_parts (starts_with_tab (texts own)) (is_single ((indicator_of style ∷ line) ∷ texts own) && begins_with tab (spell ns last)) still).0 in
        let lines = split_spell (record { text = indicator_of style ∷ line; by = k } ∷ own) [] (style_inner style line inner, fits_own, are_before own (spell ns last) [] (λ k. fits_next k [] refl) parts.0) refl in
        found (line ++ put k (spell ls last)) (indicator_of style ∷ (line ++ put k (spell own []))) (spell ns last) line (value_before_text h rs) h (column_by h.digit (collection_of indent) (texts own)) is
        (ap (λ a. indicator_of style ∷ (line ++ put k a)) joined ∙ sym (spell_more (record { text = indicator_of style ∷ line; by = k } ∷ own) [] (spell ns last))) some_next_text
        (ap (λ s. read_split (collection_of indent) s (spell ns last)) lines ∙ ap (λ t. read_lines (collection_of indent) ((indicator_of style ∷ line) ∷ texts own) [] (spell ns last) t) not_end
        ∙ ap (λ o. read_body o (collection_of indent) (body (texts own) further_text) (spell ns last)) is ∙ rw (not_end, ← same, further, tab_free, rows) refl)

    with_lines : Ends (line ++ put k (spell ls last))
    with_lines = elim (walked column ls last are last_inner some) [
      | stops own ns rs split_at rows further free ↦ to_text own ns rs split_at rows further free
      | ends rs r rows row ↦
          let lines = split_spell (record { text = indicator_of style ∷ line; by = k } ∷ ls) last (style_inner style line inner, fits, are) last_inner in
          let tab_free : starts_with_tab (texts ls ++ last ∷ []) ≡ false = sym (tab_whole ls last) ∙ tabless in
          found (line ++ put k (spell ls last)) (indicator_of style ∷ (line ++ put k (spell ls last))) [] line (value_before_end h column rs last r) h column is (sym (append-nil _)) refl
          (ap (λ s. read_split (collection_of indent) s []) lines ∙ ap (λ o. read_body o (collection_of indent) (body (texts ls) (unbroken last)) []) is ∙ rw (tab_free, rows, row) refl)
    ]

  of_lines : (ls : List Line) (last : List ℕ) → AreLines ls last → is_in_line last ≡ true → list_all is_some (spell ls last) ≡ true → Ends (spell ls last)
  of_lines [] last are inner some = subst Ends (append-nil last) (alone last inner)
  of_lines (l ∷ ls) last are inner some =
      by_header l.text (put l.by (spell ls last)) are.0 (break_ends l.by (spell ls last)) (headers_end style l.text (put l.by (spell ls last)) p are.0 (break_ends l.by (spell ls last)))
      (λ h is t. with_lines l.text l.by ls last are.0 are.1 are.2 inner h is (sym (ap (λ (r : Read (Unit {0})). begins_with tab r.rest) (linebreak_put l.by (spell ls last) p are.1)) ∙ t) (of_line l (spell ls last) some).1)

pub scans_end : BlockScansEndAsTheirTextSays
scans_end style indent text p some =
    let z = lined text in
    subst (Ends style indent p) (sym z.is) (of_lines style indent p z.lines z.last z.are z.inner (ap (list_all is_some) (sym z.is) ∙ some))
