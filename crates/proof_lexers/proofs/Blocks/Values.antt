-- What rows leave in the model's buffers is the text that the definitions give them; where content is found after rows, and what ends them.
use Rattle.proof_lexers.proofs.Common.{[], ap, append-nil, append_assoc, arith, between, between_lines, BlockStyle, Bool, breaks, chomping_of, content_row, empty_after, empty_row, empty_text, false, has_content, if◌then◌else◌, is_literal_style, keep, length, Lines, List, nothing_before_end, nothing_before_text, refl, Row, starts_blank, suc, sym, tail, text_after, text_of, true, with_content, zero, ℕ, ◌++◌, ◌+◌, ◌||◌, ◌∙◌, ◌∷◌, ◌≡◌, indent_from, is_further_text, is_in_line, is_some, list_all, None, Option, Position, row_of, rows_of, Some, ◌≤◌, and_parts, cases_Bool, eqb-true, inl, inr, is_break, is_outside, lt-ltb, nat_lt, ne_eqb, not, not-true, Ok, past, past_spaces, without_spaces, ◌&&◌, ◌==◌, are_marks, is_nul, same_break, same_marker}
use Rattle.defs_text.specs.BlockScalar as defs
use Rattle.proof_lexers.proofs.Fold.{more_breaks}
use Rattle.proof_lexers.proofs.Blocks.Rows.{after_line, after_lines, after_row, after_rows, AreLines, at, break_ends, empty_passes, first_of, first_row, front, is_content, Line, no_content, put, scan, spell, starts, texts, through}
use Rattle.std.proofs.lemmas.List.Folds.{list_all-append}
use Rattle.proof_lexers.proofs.Blocks.Columns.{none_further}
use Rattle.defs_text.specs.Classes as classes
use Rattle.model_scanner.specs.BlockScalar.{begins}
use Rattle.proof_lexers.proofs.Blocks.Positions.{space_past}

break_before : (n : ℕ) (t : List ℕ) → breaks (suc n) ++ t ≡ breaks n ++ 10 ∷ t
break_before zero t = refl
break_before (suc n) t = ap (λ r. 10 ∷ r) (break_before n t)

-- after content and empty lines
abbrev after_content : List ℕ → ℕ → Bool → Lines
after_content t n b = record { text = t; breaks = breaks n; broken = true; blank = b }

-- after empty lines alone
abbrev pub after_empty : ℕ → Lines
after_empty n = record { text = []; breaks = breaks n; broken = false; blank = false }

record Holds (x : Lines) (text : List ℕ) (n : ℕ) : Type 0 where
  text_is : x.text ≡ text
  breaks_are : x.breaks ≡ breaks n
  is_broken : x.broken ≡ true

module _ (s : BlockStyle) where
  abbrev rows_after : List Row → Lines → Lines
  rows_after rs l = after_rows (is_literal_style s) rs l

  text_goes : (rs : List Row) (t l : List ℕ) (n : ℕ) → Holds (rows_after rs (after_content t n (starts_blank l))) (t ++ text_after s l n rs) (empty_after n rs)
  unfolding between
  text_goes [] t l n = record { text_is = sym (append-nil t); breaks_are = refl; is_broken = refl }
  text_goes (empty_row ∷ rs) t l n = grind (arith, more_breaks, text_goes rs t l (suc n))
  text_goes (content_row m ∷ rs) t l n = let more = text_goes rs ((t ++ between_lines s n (starts_blank l || starts_blank m)) ++ m) m 0 in grind (arith, append_assoc, more)

  first_goes : (rs : List Row) (n k : ℕ) → has_content rs ≡ true → Holds (rows_after rs (after_empty n)) (breaks n ++ text_of s rs) (empty_after k rs)
  unfolding between
  first_goes [] n k h = cc
  first_goes (empty_row ∷ rs) n k h = grind (arith, more_breaks, break_before, first_goes rs (suc n) (suc k) h)
  first_goes (content_row m ∷ rs) n k h = grind (arith, append_assoc, text_goes rs (breaks n ++ m) m 0)

  pub none_goes : (rs : List Row) (n : ℕ) → has_content rs ≡ false → rows_after rs (after_empty n) ≡ after_empty (n + length rs)
  none_goes [] n h = let none : n ≡ n + 0 = omega arith in ap after_empty none
  none_goes (empty_row ∷ rs) n h = grind (arith, breaks, more_breaks, none_goes rs (suc n) h)
  none_goes (content_row m ∷ rs) n h = cc

-- ---- chomping

abbrev pub added : Bool → ℕ
added b = (if b then 1 else 0)

tail_is : (ch : defs.Chomping) (unbroken : Bool) (x : Lines) (n : ℕ) → x.breaks ≡ breaks n → x.broken ≡ true → tail (chomping_of ch) unbroken x ≡ defs.tail ch (added unbroken) n
unfolding tail
tail_is keep true x n e f = let two : suc (suc n) ≡ suc 1 + n = omega arith in rw (f, e) (ap breaks two)
tail_is keep false x n e f = let one : suc n ≡ suc 0 + n = omega arith in rw (f, e) (ap breaks one)
tail_is ch unbroken x n e f = grind arith

-- lines with content
pub content_value : (h : defs.Header) (unbroken : Bool) (rs : List Row) → has_content rs ≡ true
    → (after_rows (is_literal_style h.style) rs (after_empty 0)).text ++ tail (chomping_of h.chomping) unbroken (after_rows (is_literal_style h.style) rs (after_empty 0)) ≡ with_content h (added unbroken) rs
content_value h unbroken rs some =
    let z = first_goes h.style rs 0 0 some in
    rw (z.text_is) (ap (λ t. text_of h.style rs ++ t) (tail_is h.chomping unbroken _ (empty_after 0 rs) z.breaks_are z.is_broken))

pub empty_value : (h : defs.Header) (rs : List Row) → has_content rs ≡ false
    → (after_rows (is_literal_style h.style) rs (after_empty 0)).text ++ tail (chomping_of h.chomping) false (after_rows (is_literal_style h.style) rs (after_empty 0)) ≡ nothing_before_text h.chomping (length rs)
unfolding tail
empty_value h rs none =
    let same : (n : ℕ) → 0 + n ≡ n = λ n. omega arith in
    ap (λ (l : Lines). l.text ++ tail (chomping_of h.chomping) false l) (none_goes h.style rs 0 none ∙ ap after_empty (same (length rs))) ∙ (grind arith)

-- no line with content, at the end of the text
pub end_value : (ch : defs.Chomping) (n : ℕ) → empty_text (chomping_of ch) true (breaks n) ≡ nothing_before_end ch n
unfolding empty_text
end_value a n = grind arith

-- ---- a last line of content without a break

rows_more : (b : Bool) (rs : List Row) (r : Row) (l : Lines) → after_rows b (rs ++ r ∷ []) l ≡ after_row b r (after_rows b rs l)
rows_more b [] r l = refl
rows_more b (q ∷ rs) r l = rows_more b rs r (after_row b q l)

content_last : (rs : List Row) (m : List ℕ) → has_content (rs ++ content_row m ∷ []) ≡ true
content_last [] m = refl
content_last (r ∷ rs) m = grind (arith, content_last rs m)

pub last_value : (h : defs.Header) (rs : List Row) (m : List ℕ)
    → (after_row (is_literal_style h.style) (content_row m) (after_rows (is_literal_style h.style) rs (after_empty 0))).text
    ++ tail (chomping_of h.chomping) true (record (after_row (is_literal_style h.style) (content_row m) (after_rows (is_literal_style h.style) rs (after_empty 0))) { broken = false })
    ≡ with_content h 0 (rs ++ content_row m ∷ [])
unfolding tail
last_value h rs m =
    let z = first_goes h.style (rs ++ content_row m ∷ []) 0 0 (content_last rs m) in
    let more = rows_more (is_literal_style h.style) rs (content_row m) (after_empty 0) in
    grind (arith, z, more)

-- a line and its break have no NUL, nor has the text after them
pub of_line : (l : Line) (a : List ℕ) → list_all is_some (l.text ++ put l.by a) ≡ true → (list_all is_some l.text ≡ true) × (list_all is_some a ≡ true)
of_line l a h = let q = and_parts (list_all is_some l.text) (list_all is_some (put l.by a)) (sym (list_all-append is_some l.text (put l.by a)) ∙ h) in (q.0, grind (arith, q))

-- ---- the first content

module _ (column : ℕ) where
  -- Content is found after rows, whatever stands after them.
  pub record Found (ls : List Line) (p : Position) (b : List ℕ) : Type 0 where
    pub char : ℕ
    pub rest : List ℕ → List ℕ
    pub position : Position
    pub breaks_before : List ℕ
    pub in_column : position.col ≡ column
    pub found : (a : List ℕ) → AreLines ls a → indent_from column (spell ls a) (at p b) ≡ record { rest = char ∷ rest a; position = position; value = record { column = column; breaks = breaks_before } }

  pub found_in : (ls : List Line) (a : List ℕ) (p : Position) (b : List ℕ) (rs : List Row) → p.col ≡ 0 → AreLines ls a → rows_of column (texts ls) ≡ Some rs → has_content rs ≡ true → Found ls p b
  found_in [] a p b rs col are h some = let none : [] ≡ rs = cc in let no : false ≡ true = rw (← none) at some in cc
  found_in (l ∷ ls) a p b rs col are h some = elim (first_of column l.text (texts ls) rs h) [
    | first_row empty_row more e (no_content s le) f ↦
        let z = found_in ls a (after_line l p) (b ++ 10 ∷ []) more refl are.2 f (ap has_content (sym e) ∙ some) in
        record { char = z.char; rest = z.rest; position = z.position; breaks_before = z.breaks_before; in_column = z.in_column; found = λ a are. empty_passes column l (spell ls a) p b s (omega (arith, le, col)) are.1 ∙ z.found a are.2 }
    | first_row (content_row m) more e (is_content lead long free) f ↦
        let z = starts column column l.text p (omega (arith, col)) lead long are.0 in
        record { char = z.char; rest = λ a. z.rest ++ put l.by (spell ls a); position = z.position; breaks_before = b; in_column = z.in_column; found = λ a are. z.found (put l.by (spell ls a)) b }
  ]

  -- empty lines alone
  pub all_empty : (ls : List Line) (a : List ℕ) (p : Position) (b : List ℕ) (rs : List Row) → p.col ≡ 0 → AreLines ls a → rows_of column (texts ls) ≡ Some rs → has_content rs ≡ false
      → indent_from column (spell ls a) (at p b) ≡ indent_from column a (at (after_lines ls p) (b ++ breaks (length rs)))
  all_empty [] a p b rs col are h none = grind (arith, append-nil)
  all_empty (l ∷ ls) a p b rs col are h none = elim (first_of column l.text (texts ls) rs h) [
    | first_row empty_row more e (no_content s le) f ↦
        empty_passes column l (spell ls a) p b s (omega (arith, le, col)) are.1 ∙ all_empty ls a (after_line l p) (b ++ 10 ∷ []) more refl are.2 f (ap has_content (sym e) ∙ none)
        ∙ ap (λ x. indent_from column a (at (after_lines ls (after_line l p)) x)) (append_assoc b (10 ∷ []) (breaks (length more)) ∙ ap (λ x. b ++ breaks (length x)) (sym e))
    | first_row (content_row m) more e is f ↦ let no : true ≡ false = ap has_content (sym e) ∙ none in cc
  ]

  -- ---- how far rows go

  -- Rows go up to further text, or to the text's end.
  pub data Walked (ms : List Line) (e : List ℕ) : Type 0 where
    stops : (ls ns : List Line) (rs : List Row) → ms ≡ ls ++ ns → rows_of column (texts ls) ≡ Some rs → is_further_text column (spell ns e) ≡ true → list_all is_some (spell ns e) ≡ true → Walked ms e
    ends : (rs : List Row) (r : Row) → rows_of column (texts ms) ≡ Some rs → row_of column e ≡ Some r → Walked ms e

  last_walked : (e : List ℕ) (o : Option Row) → row_of column e ≡ o → is_in_line e ≡ true → list_all is_some e ≡ true → Walked [] e
  last_walked e None f inner some = stops [] [] [] refl refl (let z = none_further column e [] f inner some refl in rw append-nil at z) some
  last_walked e (Some r) f inner some = ends [] r refl f

  line_walked : (l : Line) (ms : List Line) (e : List ℕ) (o : Option Row) → row_of column l.text ≡ o → is_in_line l.text ≡ true → list_all is_some (spell (l ∷ ms) e) ≡ true → Walked ms e → Walked (l ∷ ms) e
  line_walked l ms e None f inner some z = stops [] (l ∷ ms) [] refl refl (none_further column l.text (put l.by (spell ms e)) f inner (of_line l (spell ms e) some).0 (break_ends l.by (spell ms e))) some
  line_walked l ms e (Some r) f inner some (stops ls ns rs cut rows further free) = stops (l ∷ ls) ns (r ∷ rs) (ap (λ x. l ∷ x) cut) (rw (f, rows) refl) further free
  line_walked l ms e (Some r) f inner some (ends rs s rows last) = ends (r ∷ rs) s (rw (f, rows) refl) last

  pub walked : (ms : List Line) (e : List ℕ) → AreLines ms e → is_in_line e ≡ true → list_all is_some (spell ms e) ≡ true → Walked ms e
  walked [] e are inner some = last_walked e (row_of column e) refl inner some
  walked (l ∷ ms) e are inner some = line_walked l ms e (row_of column l.text) refl are.0 some (walked ms e are.2 inner (of_line l (spell ms e) some).1)

-- ---- text outside

-- Where a scalar's lines end: after spaces, before a character that is none of its lines'.
pub record Outside (column : ℕ) (next : List ℕ) (p : Position) : Type 0 where
  pub char : ℕ
  pub rest : List ℕ
  pub position : Position
  pub is : without_spaces next ≡ char ∷ rest
  pub at_position : past_spaces p next ≡ position
  pub solid : is_break char ≡ false
  pub shallow : position.col ≤ column
  pub margin : ((char == 32) && nat_lt position.col column) ≡ false
  pub none : begins column position.col (char ∷ rest) ≡ false
  pub found : (b : List ℕ) → indent_from column next (at p b) ≡ record { rest = char ∷ rest; position = position; value = record { column = column; breaks = b } }

space_outside : (column c : ℕ) (r : List ℕ) (p : Position) → (c == 32) ≡ true → nat_lt p.col column ≡ true → Outside column r (past p) → Outside column (c ∷ r) p
space_outside column c r p e deep z = grind (arith, eqb-true, space_past)

here_outside : (column c : ℕ) (r : List ℕ) (p : Position) → (c == 32) ≡ false → is_break c ≡ false → p.col ≤ column → begins column p.col (c ∷ r) ≡ false → Outside column (c ∷ r) p
here_outside column c r p e b le none = grind arith

pub outside : (n column : ℕ) (r : List ℕ) (p : Position) → p.col + n ≡ column → is_outside n r ≡ true → Outside column r p
unfolding begins
outside (suc n) column (c ∷ r) p col h = elim (cases_Bool (c == 32)) [
  | inl e ↦ space_outside column c r p e (lt-ltb p.col column (omega (arith, col))) (outside n column r (past p) (omega (arith, col)) (rw e at h))
  | inr e ↦
      let q = and_parts (not (classes.is_break c)) (not (is_nul c)) (rw e at h) in
      here_outside column c r p e (sym (same_break c) ∙ not-true _ q.0) (omega (arith, col)) (grind (arith, ne_eqb))
]
outside n column r p col h = cc

pub further_outside : (column : ℕ) (r : List ℕ) (p : Position) → p.col ≡ 0 → is_further_text column r ≡ true → Outside column r p
unfolding begins are_marks is_break
further_outside zero r p col h = grind (arith, same_marker, begins, here_outside)
further_outside (suc n) r p col h = outside (suc n) (suc n) r p (omega (arith, col)) h

pub further_stops : (literal : Bool) (column : ℕ) (r : List ℕ) (p : Position) (x : Lines) → Outside column r p → scan literal column r (front p x) ≡ Ok (record { rest = without_spaces r; position = past_spaces p r; value = x })
further_stops literal column r p x z =
    let stops : indent_from column (z.char ∷ z.rest) (at z.position x.breaks) ≡ record { rest = z.char ∷ z.rest; position = z.position; value = record { column = column; breaks = x.breaks } } = rw (z.margin, z.solid) refl in
    through literal column r (z.char ∷ z.rest) p z.position x x.breaks (z.found x.breaks ∙ sym stops)
    ∙ rw (z.margin, z.solid, z.none, z.is, z.at_position) refl
