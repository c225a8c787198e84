-- The lines of a literal or folded block as the definitions of block scalars read them: their column, their rows and their value.
use Rattle.proof_loads.proofs.Common.{[], and_false, and_parts, ap, append-nil, append_assoc, append_cancel_right, are_marks, AreFoldedLines, AreLines, AreLinesOf, AreLineTexts, arith, begins_as_marker, BeginsWithText, blank, BlockStyle, Bool, breaks, Chomping, codes, collection_of, column_by, content_row, contents, deepest_start, digit_of, drop, empty_row, ends_with, EndsInText, false, feed, first_full_line_is_indented, full, has_content, Header, header_of, if◌then◌else◌, indented_lines, indicator_of, is_blank, is_blank_or_end, is_content_line, is_document_marker, is_empty, is_empty_line, is_in_line, is_line_character, is_line_feed, is_literal_character, is_literal_text, is_nul, is_outside, is_root_literal, is_spaces, IsLineText, leading_spaces, length, Line, lines_of, lines_of_ended, List, list_all, list_any, literal_header, map, max, nat_eq, nat_le, nat_tests, ne_eqb, None, not, not-true, onto_first_line, or_parts, refl, Row, row_of, rows_of, sign_of, Some, spaces, spell_line, spell_lines, starts_with_tab, suc, text_after, text_of, texts, true, value_before_end, value_before_text, zero, ℕ, ◌&&◌, ◌++◌, ◌+◌, ◌<◌, ◌==◌, ◌||◌, ◌∙◌, ◌∷◌, ◌≡◌, ◌≤◌, ended, is_break, BlockRead, All, All-nil, All-cons, All-head, All-tail, replicate}
use Rattle.proof_lexers.proofs.Blocks.Written as written
use Rattle.proof_loads.proofs.Nul.{HasNone, both, text_none, spaces_none}
use Rattle.proof_lexers.proofs.Blocks.First.{least_is}
use Rattle.defs_tree.specs.Literal as literal_defs

-- ---- lines

abbrev pub line_of : (column : ℕ) → Line → written.Line
line_of column l = record { text = spell_line column l []; by = feed }

-- the lines, each before an LF
abbrev pub lines_at : (column : ℕ) → List Line → List written.Line
lines_at column ls = map (line_of column) ls

-- so many empty lines
abbrev pub empties : ℕ → List Line
empties n = replicate n (blank 0)

pub texts_are : (column : ℕ) (ls : List Line) → texts (lines_at column ls) ≡ indented_lines column ls
texts_are column [] = refl
texts_are column (l ∷ ls) = ap (λ x. spell_line column l [] ∷ x) (texts_are column ls)

pub spaces_are : (n : ℕ) (w r : List ℕ) → spaces n w ++ r ≡ spaces n (w ++ r)
spaces_are zero w r = refl
spaces_are (suc n) w r = ap (λ x. 32 ∷ x) (spaces_are n w r)

pub line_more : (column : ℕ) (l : Line) (r : List ℕ) → spell_line column l [] ++ r ≡ spell_line column l r
line_more column l r = grind (arith, nat_tests, spaces_are, spaces, append-nil)

-- each line, and then an LF
pub spelt_feeds : (column : ℕ) (ls : List Line) (r : List ℕ) → spell_lines column ls (10 ∷ r) ≡ 10 ∷ written.spell (lines_at column ls) r
spelt_feeds column [] r = refl
spelt_feeds column (l ∷ ls) r = cc (spelt_feeds column ls r, line_more column l (10 ∷ written.spell (lines_at column ls) r))

pub spelt_more : (column : ℕ) (ls ms : List Line) (r : List ℕ) → spell_lines column (ls ++ ms) r ≡ spell_lines column ls (spell_lines column ms r)
spelt_more column [] ms r = refl
spelt_more column (l ∷ ls) ms r = ap (λ x. 10 ∷ spell_line column l x) (spelt_more column ls ms r)

-- lines whose last is full
pub record Last (ls : List Line) : Type 0 where
  pub init : List Line
  pub last : List ℕ
  pub is : ls ≡ init ++ full last ∷ []

pub last_of : (ls : List Line) → EndsInText ls → Last ls
last_of [] h = absurd h
last_of (full w ∷ []) h = record { init = []; last = w; is = refl }
last_of (blank n ∷ []) h = absurd h
last_of (l ∷ m ∷ ls) h = let z = last_of (m ∷ ls) h in record { init = l ∷ z.init; last = z.last; is = ap (λ x. l ∷ x) z.is }

-- ---- their column

spaces_lead : (n : ℕ) (r : List ℕ) → leading_spaces (spaces n r) ≡ n + leading_spaces r
spaces_lead zero r = omega arith
spaces_lead (suc n) r = let e = spaces_lead n r in omega (arith, e)

pub are_spaces : (n : ℕ) (r : List ℕ) → is_spaces (spaces n r) ≡ is_spaces r
are_spaces zero r = refl
are_spaces (suc n) r = are_spaces n r

pub spaces_long : (n : ℕ) (r : List ℕ) → length (spaces n r) ≡ n + length r
spaces_long zero r = omega arith
spaces_long (suc n) r = let e = spaces_long n r in omega (arith, e)

pub deepest : (column : ℕ) (ls : List Line) (more : List (List ℕ)) → BeginsWithText ls → AreLines column ls → deepest_start (indented_lines column ls ++ more) ≡ column
deepest column [] more h are = absurd h
deepest column (l ∷ ls) more h are = grind (arith, are_spaces, spaces_lead, deepest column ls more)

drop_spaces : (n : ℕ) (r : List ℕ) → drop n (spaces n r) ≡ r
drop_spaces zero r = refl
drop_spaces (suc n) r = drop_spaces n r

unmarked_line : (n : ℕ) (r : List ℕ) → (n ≡ 0 → is_document_marker r ≡ false) → ((n == 0) && is_document_marker (spaces n r)) ≡ false
unmarked_line n r h = grind (arith, nat_tests, suc, ne_eqb)

-- ---- rows

-- the row of a line
abbrev pub row_by : Line → Row
row_by (full w) = content_row w
row_by (blank n) = empty_row

module _ (column : ℕ) where
  -- spaces left of the column
  pub row_spaces : (n : ℕ) → n ≤ column → row_of column (spaces n []) ≡ Some empty_row
  unfolding row_of is_empty_line
  row_spaces n h = grind (arith, nat_tests, length, spaces, spaces_long, nat_le, column, are_spaces)

  -- a full line isn't empty
  full_line : (c : ℕ) (w : List ℕ) → is_empty_line column (spaces column ((c ∷ w) ++ [])) ≡ false
  unfolding is_empty_line
  full_line c w = grind (arith, nat_tests, length, spaces, column, spaces_long, nat_le, and_false, is_spaces)

  -- its row is its text, but for a document marker at column 0
  pub text_row : (c : ℕ) (w : List ℕ) → (column ≡ 0 → is_document_marker ((c ∷ w) ++ []) ≡ false) → row_of column (spell_line column (full (c ∷ w)) []) ≡ Some (content_row (c ∷ w))
  unfolding row_of is_content_line
  text_row c w h = grind (arith, nat_tests, spaces, column, leading_spaces, spaces_lead, length, spaces_long, nat_le, suc, full_line, unmarked_line, content_row, drop_spaces, append-nil)

-- ---- their value

pub content_append : (rs ss : List Row) → has_content (rs ++ ss) ≡ (has_content rs || has_content ss)
content_append [] ss = refl
content_append (m ∷ rs) ss = grind (arith, content_append rs ss)

-- a header without digit, that strips or clips
abbrev pub header_by : BlockStyle → (strips : Bool) → Header
header_by s strips = record { style = s; chomping = (if strips then Chomping.strip else Chomping.clip); digit = None }

module _ (s : BlockStyle) where
  no_text : (l : List ℕ) (k n : ℕ) → text_after s l k (map row_by (empties n)) ≡ []
  no_text l k zero = refl
  no_text l k (suc n) = no_text l (suc k) n

  same_after : (l : List ℕ) (k : ℕ) (rs : List Row) (n : ℕ) → text_after s l k (rs ++ map row_by (empties n)) ≡ text_after s l k rs
  same_after l k [] n = no_text l k n
  same_after l k (empty_row ∷ rs) n = same_after l (suc k) rs n
  same_after l k (content_row m ∷ rs) n = rw (same_after m 0 rs n) refl

  same_text : (rs : List Row) (n : ℕ) → has_content rs ≡ true → text_of s (rs ++ map row_by (empties n)) ≡ text_of s rs
  same_text [] n h = cc
  same_text (r ∷ rs) n h = grind (arith, same_after, same_text rs n)

  -- before further text
  pub text_value : (strips : Bool) (rs : List Row) (n : ℕ) → has_content rs ≡ true → value_before_text (header_by s strips) (rs ++ map row_by (empties n)) ≡ value_before_text (header_by s strips) rs
  text_value strips rs n h = rw (content_append rs (map row_by (empties n)), h) (grind (arith, same_text))

  -- at the end of the text, in a line of spaces
  pub spaces_value : (strips : Bool) (column : ℕ) (rs : List Row) (n width : ℕ) → has_content rs ≡ true → width < max column 1
      → value_before_end (header_by s strips) column (rs ++ map row_by (empties n)) (spaces width []) empty_row ≡ value_before_text (header_by s strips) rs
  spaces_value strips column rs n width h e = grind (arith, nat_tests, length, spaces, spaces_long, nat_le, max, content_append, map, row_by, empties, same_text)

  -- at the end of the text, in the last line
  pub last_value : (strips : Bool) (column : ℕ) (rs : List Row) (r : Row) (l : List ℕ) → has_content (r ∷ []) ≡ true → value_before_end (header_by s strips) column rs l r ≡ value_before_text (header_by s strips) (rs ++ r ∷ [])
  last_value strips column rs a l h = grind (arith, content_append)

-- ---- the block

abbrev pub header_line : (strips : Bool) → List ℕ
header_line strips = if strips then 45 ∷ [] else []

abbrev pub block_text : BlockStyle → (strips : Bool) → List ℕ → List ℕ
block_text s strips a = indicator_of s ∷ (header_line strips ++ a)

pub header_is : (s : BlockStyle) (strips : Bool) → header_of (indicator_of s ∷ header_line strips) ≡ Some (header_by s strips)
unfolding sign_of digit_of
header_is a b = grind arith

pub header_inner : (s : BlockStyle) (strips : Bool) → is_in_line (indicator_of s ∷ header_line strips) ≡ true
unfolding is_break
header_inner a b = grind arith

-- The column of the lines is deeper than the collection's, and 0 at the root.
abbrev pub IsInside : (indent column : ℕ) → Type 0
IsInside zero column = column ≡ 0
IsInside (suc c) column = c < column

-- what a written line of a block is
pub record IsBlockLine (column : ℕ) (l : Line) : Type 0 where
  pub row : row_of column (spell_line column l []) ≡ Some (row_by l)
  pub inner : is_in_line (spell_line column l []) ≡ true
  pub none : HasNone (spell_line column l [])

-- The lines of a block of this style, whose value is the text.
pub record AreBlockLines (s : BlockStyle) (column : ℕ) (strips : Bool) (text : List ℕ) (ls : List Line) : Type 0 where
  pub begins : BeginsWithText ls
  pub ends : EndsInText ls
  pub lines : AreLines column ls
  pub each : All (IsBlockLine column) ls
  pub tabless : starts_with_tab (indented_lines column ls) ≡ false
  pub value : value_before_text (header_by s strips) (map row_by ls) ≡ text

-- at column 0 no line is read as a document marker
abbrev pub AreFree : ℕ → List Line → Type 0
AreFree column ls = column ≡ 0 → list_any begins_as_marker (contents ls) ≡ false

pub tab_more : (column : ℕ) (ls : List Line) (more : List (List ℕ)) → BeginsWithText ls → starts_with_tab (indented_lines column ls) ≡ false → starts_with_tab (indented_lines column ls ++ more) ≡ false
tab_more column [] more begins h = absurd begins
tab_more column (l ∷ ls) more begins h = grind (arith, h)

pub high : (i column : ℕ) → IsInside i column → i ≤ column
high i column h = grind (arith, nat_tests)

-- the lines have their column, whatever lines stand after them
pub in_column_with : (i column : ℕ) (ls : List Line) (more : List (List ℕ)) → IsInside i column → BeginsWithText ls → AreLines column ls → column_by None (collection_of i) (indented_lines column ls ++ more) ≡ column
in_column_with i column ls more inside begins are = let e = deepest column ls more begins are in let f = least_is i in let g = high i column inside in omega (arith, e, f, g)

-- ---- texts

pub outside : (column n c : ℕ) (a : List ℕ) → n < column
    → is_blank c ≡ false → is_break c ≡ false → is_nul c ≡ false → is_outside column (spaces n (c ∷ a)) ≡ true
unfolding is_blank is_break is_nul
outside zero n c a low not_blank not_break not_nul = absurd (omega (arith, low))
outside (suc column) zero c a low not_blank not_break not_nul = grind (arith, nat_tests)
outside (suc column) (suc n) c a low not_blank not_break not_nul = outside column n c a (omega (arith, low)) not_blank not_break not_nul

-- ---- lines

pub inner_line : (w : List ℕ) → IsLineText w → is_in_line (w ++ []) ≡ true
unfolding is_break is_line_character
inner_line [] h = refl
inner_line (c ∷ w) h = grind (arith, nat_tests, and_parts, inner_line w)

pub inner_spaces : (n : ℕ) (w : List ℕ) → is_in_line w ≡ true → is_in_line (spaces n w) ≡ true
unfolding is_break
inner_spaces zero w h = h
inner_spaces (suc n) w h = inner_spaces n w h

no_marker : (w : List ℕ) → IsLineText w → begins_as_marker w ≡ false → is_document_marker (w ++ []) ≡ false
unfolding are_marks is_line_character is_blank_or_end is_blank is_break is_nul
no_marker w h e = grind (arith, nat_tests, and_parts, is_line_character, list_all)

pub a_blank : (column n : ℕ) → n ≤ column → IsBlockLine column (blank n)
a_blank column n low = record { row = row_spaces column n low; inner = inner_spaces n [] refl; none = spaces_none n [] refl }

pub each_line : (column : ℕ) (ls : List Line) → AreLines column ls → AreLineTexts ls → AreFree column ls → All (IsBlockLine column) ls
each_line column [] are texts free = All-nil (IsBlockLine column)
each_line column (full [] ∷ ls) are texts free = absurd (are.0 refl)
each_line column (full (c ∷ w) ∷ ls) are texts free =
    let w' = c ∷ w in
    let unmarked = λ (e : column ≡ 0). or_parts (begins_as_marker w') (list_any begins_as_marker (contents ls)) (free e) in
    let first : IsBlockLine column (full w') = record {
      row = text_row column c w (λ e. no_marker w' texts.0 (unmarked e).0);
      inner = inner_spaces column (w' ++ []) (inner_line w' texts.0);
      none = spaces_none column (w' ++ []) (both w' [] (text_none w' texts.0) refl);
    } in
    All-cons (IsBlockLine column) (full w') ls first (each_line column ls are.1 texts.1 (λ e. (unmarked e).1))
each_line column (blank n ∷ ls) are texts free =
    All-cons (IsBlockLine column) (blank n) ls (a_blank column n are.0) (each_line column ls are.1 texts free)

-- such lines before a last one: their rows, as lines, and that they have no NUL
pub are_each : (column : ℕ) (ls : List Line) (e : List ℕ) → All (IsBlockLine column) ls → HasNone e
    → (rows_of column (texts (lines_at column ls)) ≡ Some (map row_by ls)) × written.AreLines (lines_at column ls) e
    × HasNone (written.spell (lines_at column ls) e)
are_each column [] e h none = (refl, tt, none)
are_each column (l ∷ ls) e h none =
    let first = All-head (IsBlockLine column) l ls h in
    let z = are_each column ls e (All-tail (IsBlockLine column) l ls h) none in
    (rw (first.row, z.0) refl, (first.inner, tt, z.1), both (spell_line column l []) _ first.none z.2)

pub header_none : (s : BlockStyle) (strips : Bool) (a : List ℕ) → HasNone a → HasNone (block_text s strips (10 ∷ a))
header_none s strips a n = grind arith

abbrev pub is_block : BlockStyle → (column : ℕ) → List ℕ → BlockRead
is_block s column text = record { style = s; column = column; text = text }

-- ---- folded blocks

-- below a collection at a column
pub folded_lines : (c column : ℕ) (strips : Bool) (text : List ℕ) (ls : List Line) → c < column → AreFoldedLines c column strips text ls → AreBlockLines BlockStyle.folded column strips text ls
folded_lines c column strips text ls deep h =
    let each = each_line column ls h.3 h.2 (λ e. absurd (omega (arith, deep, e))) in
    let rows : rows_of column (indented_lines column ls) ≡ Some (map row_by ls) = rw (← texts_are column ls) (are_each column ls [] each refl).0 in
    let col : column_by None (Some c) (indented_lines column ls) ≡ column = rw (← append-nil (indented_lines column ls)) (in_column_with (suc c) column ls [] deep h.0 h.3) in
    let tabless : starts_with_tab (indented_lines column ls) ≡ false = grind (arith, nat_tests) in
    let value : Some (value_before_text (header_by BlockStyle.folded strips) (map row_by ls)) ≡ Some text = rw (tabless, col, rows) at h.4 in
    record { begins = h.0; ends = h.1; lines = h.3; each = each; tabless = tabless; value = cc }

-- ---- characters

abbrev are_line_texts : List (List ℕ) → Bool
are_line_texts ls = list_all (λ l. list_all is_line_character l) ls

text_lines : (text : List ℕ) → list_all is_literal_character text ≡ true → are_line_texts (lines_of text) ≡ true
unfolding is_literal_character is_line_character
text_lines [] h = refl
text_lines (c ∷ cs) h = grind (arith, nat_tests, and_parts, text_lines cs)

-- ---- the last line

abbrev ends_full : List (List ℕ) → Bool
ends_full [] = false
ends_full (l ∷ []) = not (is_empty l)
ends_full (l ∷ m ∷ ls) = ends_full (m ∷ ls)

two_step : (c d e : ℕ) (cs : List ℕ) → ends_with nat_eq (c ∷ d ∷ e ∷ cs) (10 ∷ 10 ∷ []) ≡ ends_with nat_eq (d ∷ e ∷ cs) (10 ∷ 10 ∷ [])
two_step c d e cs = grind arith

last_full : (c : ℕ) (cs : List ℕ) → ((c == 10) && is_empty cs) ≡ false → ends_with nat_eq (c ∷ cs) (codes "\n\n") ≡ false → ends_full (lines_of (c ∷ cs)) ≡ true
last_full c [] h e = grind (arith, ends_full)
last_full c (d ∷ []) h e = grind arith
last_full c (d ∷ e ∷ cs) h f = grind (arith, and_false, two_step, onto_first_line, last_full d (e ∷ cs))

-- ---- the written lines

line_texts : (ls : List Line) → are_line_texts (contents ls) ≡ true → AreLineTexts ls
line_texts [] h = tt
line_texts (l ∷ ls) h = grind (arith, line_texts ls)

ends_lines : (ls : List Line) → ends_full (contents ls) ≡ true → EndsInText ls
ends_lines [] h = cc
ends_lines (l ∷ ls) h = grind (arith, ends_lines ls)

begins_lines : (column : ℕ) (ls : List Line) → AreLines column ls → EndsInText ls → first_full_line_is_indented (contents ls) ≡ false → BeginsWithText ls
begins_lines column [] are ends h = absurd ends
begins_lines column (l ∷ ls) are ends h = grind (arith, begins_lines column ls)

-- ---- their text

abbrev rows : List Line → List Row
rows ls = map row_by ls

pub content_last : (ls : List Line) → EndsInText ls → has_content (rows ls) ≡ true
content_last [] h = absurd h
content_last (l ∷ ls) h = grind (arith, content_last ls)

one_break : (k : ℕ) (r : List ℕ) → breaks (suc k) ++ r ≡ breaks k ++ 10 ∷ r
one_break zero r = refl
one_break (suc k) r = ap (λ x. 10 ∷ x) (one_break k r)

-- the text after a line and so many empty ones, before an LF
text_from : (w : List ℕ) (k : ℕ) (ls : List Line) → EndsInText ls
    → text_after BlockStyle.literal w k (rows ls) ++ 10 ∷ [] ≡ breaks (suc k) ++ ended (contents ls)
text_from w k [] h = absurd h
text_from w k (full v ∷ ls) h = grind (arith, append_assoc, append-nil, text_from v 0 ls)
text_from w k (blank n ∷ ls) h = grind (arith, one_break, text_from w (suc k) ls)

-- the lines make the text, before an LF
text_is : (ls : List Line) → EndsInText ls → text_of BlockStyle.literal (rows ls) ++ 10 ∷ [] ≡ ended (contents ls)
text_is [] h = absurd h
text_is (l ∷ ls) h = grind (arith, append_assoc, append-nil, text_from, text_is ls)

-- whether a text lacks an LF at its end
abbrev pub strips_of : List ℕ → Bool
strips_of text = not (ends_with nat_eq text (codes "\n"))

abbrev lacking : Bool → List ℕ
lacking strips = if strips then 10 ∷ [] else []

value_is : (strips : Bool) (text : List ℕ) (ls : List Line) → EndsInText ls → ended (contents ls) ≡ text ++ lacking strips → value_before_text (header_by BlockStyle.literal strips) (rows ls) ≡ text
value_is true text ls h whole = rw (content_last ls h) (append-nil _ ∙ append_cancel_right _ text (10 ∷ []) (text_is ls h ∙ whole))
value_is false text ls h whole = rw (content_last ls h) (text_is ls h ∙ whole ∙ append-nil text)

-- no TAB begins the first line
no_tab : (column : ℕ) (ls : List Line) (text last : List ℕ) → AreLines column ls → ended (contents ls) ≡ text ++ last → is_empty text ≡ false → (column ≡ 0 → literal_defs.starts_with_tab text ≡ false)
    → starts_with_tab (indented_lines column ls) ≡ false
no_tab zero (full [] ∷ ls) text last are whole some free = absurd (are.0 refl)
no_tab zero (full (c ∷ w) ∷ ls) text last are whole some free = let e = free refl in grind (arith, nat_tests)
no_tab column (blank zero ∷ ls) text last are whole some free = refl
no_tab column ls text last are whole some free = refl

-- ---- the block

-- what is known of a text that may be a literal block
record LiteralText (text : List ℕ) : Type 0 where
  some : is_empty text ≡ false
  chars : list_all is_literal_character text ≡ true
  last : ends_full (lines_of text) ≡ true
  first : first_full_line_is_indented (lines_of text) ≡ false

literal_text : (text : List ℕ) → is_literal_text text ≡ true → LiteralText text
unfolding is_literal_text
literal_text text h = grind (arith, nat_tests, and_parts, list_any, is_line_feed, list_all, is_literal_character, not, ends_with, nat_eq, codes, first_full_line_is_indented, lines_of, last_full, and_false, not-true)

-- at column 0 it begins with no TAB, and no line is read as a document marker
abbrev MayStandAt : ℕ → List ℕ → Type 0
MayStandAt column text = column ≡ 0 → (literal_defs.starts_with_tab text ≡ false) × (list_any begins_as_marker (lines_of text) ≡ false)

lines_by : (column : ℕ) (text : List ℕ) (ls : List Line) → LiteralText text → AreLinesOf text column ls → MayStandAt column text → AreBlockLines BlockStyle.literal column (strips_of text) text ls
lines_by column text ls z are may =
    let h = ends_lines ls (ap ends_full are.0 ∙ z.last) in
    let whole : ended (contents ls) ≡ text ++ lacking (strips_of text) = ap ended are.0 ∙ lines_of_ended text ∙ rw (z.some) (grind (arith, append-nil)) in
    record {
      begins = begins_lines column ls are.1 h (ap first_full_line_is_indented are.0 ∙ z.first);
      ends = h;
      lines = are.1;
      each = each_line column ls are.1 (line_texts ls (ap are_line_texts are.0 ∙ text_lines text z.chars)) (λ x. ap (list_any begins_as_marker) are.0 ∙ (may x).1);
      tabless = no_tab column ls text (lacking (strips_of text)) are.1 whole z.some (λ x. (may x).0);
      value = value_is (strips_of text) text ls h whole;
    }

-- below a collection at a column
pub literal_lines : (c column : ℕ) (text : List ℕ) (ls : List Line) → c < column → is_literal_text text ≡ true → AreLinesOf text column ls → AreBlockLines BlockStyle.literal column (strips_of text) text ls
literal_lines c column text ls deep one are = lines_by column text ls (literal_text text one) are (λ e. absurd (omega (arith, deep, e)))

-- at the root
pub root_literal_lines : (text : List ℕ) (ls : List Line) → is_root_literal text ≡ true → AreLinesOf text 0 ls → AreBlockLines BlockStyle.literal 0 (strips_of text) text ls
unfolding is_root_literal
root_literal_lines text ls one are =
    let q = and_parts (is_literal_text text && not (literal_defs.starts_with_tab text)) (not (list_any begins_as_marker (lines_of text))) one in
    let r = and_parts (is_literal_text text) (not (literal_defs.starts_with_tab text)) q.0 in
    lines_by 0 text ls (literal_text text r.0) are (λ e. (not-true _ r.1, not-true _ q.1))

-- their header
pub headed_literal : (text r : List ℕ) → literal_header text ++ r ≡ block_text BlockStyle.literal (strips_of text) r
headed_literal text r = grind (arith, codes)
