-- The lines of a block scalar are read row by row.
use Rattle.proof_lexers.proofs.Common.{[], along, ap, append-nil, append_assoc, arith, at_marker, between, BlockState, Bool, content_row, drop, empty_row, ends_line, eq-eqb, false, Fault, indent_from, is_break, is_content_line, is_document_marker, is_empty_line, is_in_line, is_spaces, le-ltb, leading_spaces, leb-true, length, Lines, lines_from, List, margin, nat_lt, nat_tests, not-true, Ok, Option, past, Position, put_row, Read, refl, Result, Row, row_of, rows_of, Some, starts_blank, suc, sym, true, zero, ℕ, ◌&&◌, ◌++◌, ◌+◌, ◌==◌, ◌∙◌, ◌∷◌, ◌≡◌, ◌≤◌, or-true, are_marks, is_blank_or_end, and_false, same_blank, same_marker}
use Rattle.defs_text.specs.Classes as classes
use Rattle.model_scanner.specs.BlockScalar.{line, begins, begun, with_char}
pub use Rattle.proof_lexers.proofs.Blocks.Margins.{after_break, after_line, after_lines, AreLines, at, before, Break, col_along, empty_passes, first_inner, Fits, last_passes, Line, lined, lines_front, margin_passes, put, spell, split_spell, texts}

-- ---- a document marker is seen alike in a line and in the text that begins with the line

break_is_none : (c : ℕ) → classes.is_break c ≡ true → ((c == 45) ≡ false) × ((c == 46) ≡ false)
unfolding classes.is_break
break_is_none c h = (grind (arith, nat_tests), grind (arith, nat_tests))

break_is_gap : (c : ℕ) → classes.is_break c ≡ true → is_blank_or_end c ≡ true
unfolding is_blank_or_end
break_is_gap c h = rw (h, or-true (classes.is_blank c)) refl

pub line_marker : (w r : List ℕ) → ends_line r ≡ true → is_document_marker (w ++ r) ≡ is_document_marker w
unfolding are_marks
line_marker a r h = grind (arith, break_is_none, and_false, break_is_gap)

-- ---- what is known after rows

-- after a row: an empty line's break waits, content takes what waits
abbrev pub after_row : (literal : Bool) → Row → Lines → Lines
after_row literal empty_row l = record l { breaks = l.breaks ++ 10 ∷ [] }
after_row literal (content_row w) l = record { text = (l.text ++ between literal l (starts_blank w)) ++ w; breaks = []; broken = true; blank = starts_blank w }

abbrev pub after_rows : (literal : Bool) → List Row → Lines → Lines
after_rows literal [] l = l
after_rows literal (r ∷ rs) l = after_rows literal rs (after_row literal r l)

-- before a line
abbrev pub front : Position → Lines → BlockState
front p l = record { mode = margin; position = p; lines = l }

-- within a content line
abbrev pub inside : Position → Lines → BlockState
inside p l = record { mode = line; position = p; lines = l }

pub break_ends : (k : Break) (a : List ℕ) → ends_line (put k a) ≡ true
unfolding classes.is_break
break_ends b a = grind arith

pub suc_off : (k : ℕ) → (suc k == 0) ≡ false
suc_off k = grind (arith, nat_tests)

-- ---- where content begins

module _ (column : ℕ) where
  -- Content begins at the column.
  pub record Starts (w : List ℕ) (p : Position) (n : ℕ) : Type 0 where
    pub char : ℕ
    pub rest : List ℕ
    pub position : Position
    pub is : drop n w ≡ char ∷ rest
    pub in_column : position.col ≡ column
    pub inner : is_in_line (char ∷ rest) ≡ true
    pub ends : along rest (past position) ≡ along w p
    pub found : (a b : List ℕ) → indent_from column (w ++ a) (at p b) ≡ record { rest = char ∷ (rest ++ a); position = position; value = record { column = column; breaks = b } }

  space_then : (c : ℕ) (w : List ℕ) (p : Position) (n : ℕ) → (c == 32) ≡ true → nat_lt p.col column ≡ true → Starts w (past p) n → Starts (c ∷ w) p (suc n)
  space_then c w p n e deep z = record { char = z.char; rest = z.rest; position = z.position; is = z.is; in_column = z.in_column; inner = z.inner; ends = z.ends; found = λ a b. rw (e, deep) (z.found a b) }

  pub starts : (n : ℕ) (w : List ℕ) (p : Position) → p.col + n ≡ column → n ≤ leading_spaces w → suc n ≤ length w → is_in_line w ≡ true → Starts w p n
  starts n [] p col lead long inner = absurd (omega (arith, long))
  starts zero (c ∷ w) p col lead long inner =
      let q = first_inner c w inner in
      let deep : nat_lt p.col column ≡ false = le-ltb p.col column (omega (arith, col)) in
      record { char = c; rest = w; position = p; is = refl; in_column = omega (arith, col); inner = inner; ends = refl; found = λ a b. rw (deep, and_false (c == 32), q.0) refl }
  starts (suc n) (c ∷ w) p col lead long inner = grind (arith, nat_tests, first_inner, space_then, starts n w (past p))

module _ (literal : Bool) (column : ℕ) where
  abbrev pub scan : List ℕ → BlockState → Result (Read Lines) Fault
  scan a s = lines_from literal column a s

  chars : (w a : List ℕ) (p : Position) (l : Lines) → is_in_line w ≡ true → scan (w ++ a) (inside p l) ≡ scan a (inside (along w p) (record l { text = l.text ++ w }))
  chars [] a p l h = rw append-nil refl
  chars (c ∷ w) a p l h = grind (arith, first_inner, append_assoc, chars w a (past p) (with_char c l))

  line_ends : (k : Break) (a : List ℕ) (p : Position) (l : Lines) → Fits k a → scan (put k a) (inside p l) ≡ scan a (front (after_break k p) (record l { broken = true }))
  unfolding is_break
  line_ends b a p l fits = grind arith

  -- what the search for content passes
  pub through : (a r : List ℕ) (p q : Position) (l : Lines) (b : List ℕ) → indent_from column a (at p l.breaks) ≡ indent_from column r (at q b) → scan a (front p l) ≡ scan r (front q (record l { breaks = b }))
  through a r p q l b e = grind (arith, nat_tests, margin_passes, before)

  -- ---- content lines

  begins_free : (k : ℕ) (w a rest : List ℕ) (char : ℕ) (p : Position) → k ≡ column → drop k w ≡ char ∷ rest → p.col ≡ column → ends_line a ≡ true → ((column == 0) && is_document_marker w) ≡ false → begins column p.col (char ∷ (rest ++ a)) ≡ true
  unfolding begins
  begins_free k w a rest char p same is col ends free =
      let here : at_marker p.col (char ∷ (rest ++ a)) ≡ ((p.col == 0) && is_document_marker (char ∷ rest)) = same_marker p.col (char ∷ (rest ++ a)) ∙ rw (line_marker (char ∷ rest) a ends) refl in
      let at_column = eq-eqb p.col column col in
      let none : ((p.col == 0) && is_document_marker (char ∷ rest)) ≡ false = grind (arith, suc_off) in
      rw (here, none, at_column) refl

  -- after a content line's characters
  abbrev pub written : Row → Lines → Lines
  written r l = record (after_row literal r l) { broken = false }

  content_chars : (w a : List ℕ) (p : Position) (x : Lines) → p.col ≡ 0 → is_in_line w ≡ true → ends_line a ≡ true → column ≤ leading_spaces w → suc column ≤ length w → ((column == 0) && is_document_marker w) ≡ false
      → scan (w ++ a) (front p x) ≡ scan a (inside (along w p) (written (content_row (drop column w)) x))
  content_chars w a p x col inner ends lead long free =
      let z = starts column column w p (omega (arith, col)) lead long inner in
      let q = first_inner z.char z.rest z.inner in
      let in_column = z.in_column in
      let deep : nat_lt z.position.col column ≡ false = le-ltb z.position.col column (omega (arith, in_column)) in
      let stops : indent_from column (z.char ∷ (z.rest ++ a)) (at z.position x.breaks) ≡ record { rest = z.char ∷ (z.rest ++ a); position = z.position; value = record { column = column; breaks = x.breaks } } = rw (deep, and_false (z.char == 32), q.0) refl in
      let first = begins_free column w a z.rest z.char z.position refl z.is z.in_column ends free in
      let margin = through (w ++ a) (z.char ∷ (z.rest ++ a)) p z.position x x.breaks (z.found a x.breaks ∙ sym stops) in
      let more = chars z.rest a (past z.position) (with_char z.char (begun literal z.char x)) q.1 in
      let ends_there = z.ends in
      let is = z.is in
      margin ∙ rw (deep, and_false (z.char == 32), q.0, first) (more ∙ rw (append_assoc, ends_there, is, same_blank z.char) refl)

-- ---- rows

-- what a line is
pub data IsRow (column : ℕ) (w : List ℕ) : Row → Type 0 where
  no_content : is_spaces w ≡ true → length w ≤ column → IsRow column w empty_row
  is_content : column ≤ leading_spaces w → suc column ≤ length w → ((column == 0) && is_document_marker w) ≡ false → IsRow column w (content_row (drop column w))

pub row_is : (column : ℕ) (w : List ℕ) (r : Row) → row_of column w ≡ Some r → IsRow column w r
unfolding row_of is_empty_line is_content_line
row_is column w r h = grind (arith, at, no_content, leb-true, content_row, is_content, not-true)

-- a list of rows by its first
pub data First (column : ℕ) (w : List ℕ) (ws : List (List ℕ)) (rs : List Row) : Type 0 where
  first_row : (r : Row) (more : List Row) → rs ≡ r ∷ more → IsRow column w r → rows_of column ws ≡ Some more → First column w ws rs

pub first_of : (column : ℕ) (w : List ℕ) (ws : List (List ℕ)) (rs : List Row) → rows_of column (w ∷ ws) ≡ Some rs → First column w ws rs
first_of column w ws rs h = by (row_of column w) (rows_of column ws) refl refl h
  where
    by : (o : Option Row) (os : Option (List Row)) → row_of column w ≡ o → rows_of column ws ≡ os → put_row o os ≡ Some rs → First column w ws rs
    by (Some r) (Some more) e f g = let same : r ∷ more ≡ rs = cc in first_row r more (sym same) (row_is column w r e) f
    by o os e f g = cc

module _ (literal : Bool) (column : ℕ) where
  row_goes : (l : Line) (a : List ℕ) (p : Position) (x : Lines) (r : Row) → p.col ≡ 0 → is_in_line l.text ≡ true → Fits l.by a → IsRow column l.text r
      → scan literal column (l.text ++ put l.by a) (front p x) ≡ scan literal column a (front (after_line l p) (after_row literal r x))
  row_goes l a p x empty_row col inner fits (no_content h le) =
      through literal column (l.text ++ put l.by a) a p (after_line l p) x (x.breaks ++ 10 ∷ []) (empty_passes column l a p x.breaks h (omega (arith, le, col)) fits)
  row_goes l a p x (content_row m) col inner fits (is_content lead long free) = grind (arith, content_chars, break_ends, line_ends)

  pub rows_go : (ls : List Line) (a : List ℕ) (p : Position) (x : Lines) (rs : List Row) → p.col ≡ 0 → AreLines ls a → rows_of column (texts ls) ≡ Some rs
      → scan literal column (spell ls a) (front p x) ≡ scan literal column a (front (after_lines ls p) (after_rows literal rs x))
  rows_go [] a p x rs col are h = let none : [] ≡ rs = cc in ap (λ r. scan literal column a (front p (after_rows literal r x))) none
  rows_go (l ∷ ls) a p x rs col are h = grind (arith, first_of, row_goes, rows_go ls a (after_line l p))

  -- ---- a last line without a break

  pub last_empty : (w : List ℕ) (p : Position) (x : Lines) → p.col ≡ 0 → is_spaces w ≡ true → length w ≤ column → scan literal column w (front p x) ≡ Ok (record { rest = []; position = along w p; value = x })
  last_empty w p x col h le = through literal column w [] p (along w p) x x.breaks (last_passes column w p x.breaks h (omega (arith, le, col)))

  pub last_content : (w : List ℕ) (p : Position) (x : Lines) → p.col ≡ 0 → is_in_line w ≡ true → column ≤ leading_spaces w → suc column ≤ length w → ((column == 0) && is_document_marker w) ≡ false
      → scan literal column w (front p x) ≡ Ok (record { rest = []; position = along w p; value = written literal column (content_row (drop column w)) x })
  last_content w p x col inner lead long free =
      let z = content_chars literal column w [] p x col inner refl lead long free in
      ap (λ a. scan literal column a (front p x)) (sym (append-nil w)) ∙ z
