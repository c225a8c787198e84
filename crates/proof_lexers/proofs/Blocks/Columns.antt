-- Which lines a block scalar's text goes up to, and that the lines after it don't change its content column.
use Rattle.proof_lexers.proofs.Common.{[], ap, append-nil, append_assoc, arith, column_by, column_same, ends_line, false, first_line, is_content_line, is_document_marker, is_empty_line, is_further_text, is_in_line, is_outside, is_some, is_spaces, IsBefore, le-leb, leading_spaces, length, List, list_all, nat_le, None, not, not-false, Option, refl, row_of, suc, sym, true, up_to_break, zero, ℕ, ◌&&◌, ◌++◌, ◌==◌, ◌∙◌, ◌∷◌, ◌≡◌, ◌≤◌, max, nat_tests, is_nul, same_break}
use Rattle.proof_lexers.proofs.Blocks.Rows.{AreLines, break_ends, first_inner, Line, line_marker, put, spell, suc_off, texts}
use Rattle.proof_row.proofs.Columns.{further}

-- ---- a line that is no row is further text

all_spaces : (w : List ℕ) → length w ≤ leading_spaces w → is_spaces w ≡ true
all_spaces [] h = refl
all_spaces (c ∷ w) h = grind (arith, all_spaces w)

pub spaces_leading : (w : List ℕ) → is_spaces w ≡ true → leading_spaces w ≡ length w
spaces_leading [] h = refl
spaces_leading (c ∷ w) h = grind (arith, spaces_leading w)

none_outside : (n : ℕ) (w y : List ℕ) → (is_spaces w && nat_le (length w) n) ≡ false → (nat_le n (leading_spaces w) && nat_le (suc n) (length w)) ≡ false → is_in_line w ≡ true → list_all is_some w ≡ true → is_outside n (w ++ y) ≡ true
unfolding is_nul
none_outside n [] y e f inner some = grind arith
none_outside zero (c ∷ w) y e f inner some = grind arith
none_outside (suc n) (c ∷ w) y e f inner some = grind (arith, none_outside n w y)

-- the tests that both fail
record NoRow (column : ℕ) (w : List ℕ) : Type 0 where
  no_empty : (is_spaces w && nat_le (length w) column) ≡ false
  no_content : ((nat_le column (leading_spaces w) && nat_le (suc column) (length w)) && not ((column == 0) && is_document_marker w)) ≡ false

no_row : (column : ℕ) (w : List ℕ) → row_of column w ≡ None → NoRow column w
unfolding row_of is_empty_line is_content_line
no_row column w h = grind arith

pub none_further : (column : ℕ) (w y : List ℕ) → row_of column w ≡ None → is_in_line w ≡ true → list_all is_some w ≡ true → ends_line y ≡ true → is_further_text column (w ++ y) ≡ true
none_further zero w y h inner some ends = let z = no_row 0 w h in grind (arith, le-leb, line_marker, not-false, z)
none_further (suc n) w y h inner some ends =
    let z = no_row (suc n) w h in
    let no_content : (nat_le (suc n) (leading_spaces w) && nat_le (suc (suc n)) (length w)) ≡ false = (let k = z.no_content in grind (arith, suc_off n)) in
    none_outside (suc n) w y z.no_empty no_content inner some

-- ---- lines one after another

pub spell_append : (ls ns : List Line) (e : List ℕ) → spell (ls ++ ns) e ≡ spell ls (spell ns e)
spell_append [] ns e = refl
spell_append (l ∷ ls) ns e = ap (λ a. l.text ++ put l.by a) (spell_append ls ns e)

pub texts_append : (ls ns : List Line) → texts (ls ++ ns) ≡ texts ls ++ texts ns
texts_append [] ns = refl
texts_append (l ∷ ls) ns = ap (λ x. l.text ∷ x) (texts_append ls ns)

pub are_append : (ls ns : List Line) (e : List ℕ) → AreLines ls (spell ns e) → AreLines ns e → AreLines (ls ++ ns) e
are_append [] ns e are more = more
are_append (l ∷ ls) ns e are more = (are.0, rw (spell_append ls ns e) (are.1), are_append ls ns e are.2 more)

pub are_parts : (ls ns : List Line) (e : List ℕ) → AreLines (ls ++ ns) e → AreLines ls (spell ns e) × AreLines ns e
are_parts [] ns e are = (tt, are)
are_parts (l ∷ ls) ns e are = let z = are_parts ls ns e are.2 in ((are.0, rw (← spell_append ls ns e) (are.1), z.0), z.1)

-- ---- the column of further text

-- the first line of further text
up_to : (w a : List ℕ) → ends_line a ≡ true → is_in_line w ≡ true → up_to_break (w ++ a) ≡ w
up_to [] a ends h = grind arith
up_to (c ∷ w) a ends h = grind (arith, first_inner, same_break, up_to w a)

text_first : (ns : List Line) (e : List ℕ) → AreLines ns e → is_in_line e ≡ true → up_to_break (spell ns e) ≡ first_line (texts ns) e
text_first [] e are inner = ap up_to_break (sym (append-nil e)) ∙ up_to e [] refl inner
text_first (l ∷ ns) e are inner = up_to l.text (put l.by (spell ns e)) (break_ends l.by (spell ns e)) are.0

-- further text begins with a line that is no row
pub first_before : (column : ℕ) (ns : List Line) (e : List ℕ) → AreLines ns e → is_in_line e ≡ true → is_further_text column (spell ns e) ≡ true → IsBefore column (first_line (texts ns) e)
first_before column ns e are inner h = rw (← text_first ns e are inner) (further column (spell ns e) h)

-- which begins left of the column, if that is not 0
pub first_left : (column : ℕ) (w : List ℕ) → IsBefore column w → suc (leading_spaces w) ≤ max column 1
first_left zero w z = let start = z.start in omega (arith, start)
first_left (suc n) w z =
    let start = z.start in
    let other = z.written in
    let y = no_row (suc n) w z.none in
    grind (arith, nat_tests, y, all_spaces, suc_off)

-- and leaves the column of the lines before it as it is
pub same_column : (digit collection : Option ℕ) (ls ns : List Line) (e : List ℕ) → is_spaces (first_line (texts ns) e) ≡ false → leading_spaces (first_line (texts ns) e) ≤ column_by digit collection (texts ls)
    → column_by digit collection (texts (ls ++ ns) ++ e ∷ []) ≡ column_by digit collection (texts ls)
same_column digit collection ls ns e other le = grind (arith, texts_append, append-nil, append_assoc, column_same)
