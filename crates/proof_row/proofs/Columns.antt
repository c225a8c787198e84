-- The content column of a block scalar is fixed by its lines up to the first content line; and further text is no line of it.
use Rattle.proof_row.proofs.Common.{[], are_marks, arith, begins_with, column_by, deepest_start, eqb-true, false, is_break, is_content_line, is_document_marker, is_empty_line, is_further_text, is_outside, is_spaces, leading_spaces, List, lt-leb, max, None, Option, refl, row_of, rows_of, suc, true, zero, ℕ, ◌++◌, ◌<◌, ◌∷◌, ◌≡◌, ◌≤◌, both}
use Rattle.proof_row.proofs.Lines.{up_to_break}

-- ---- the column

-- further lines do not lower the greatest number of leading spaces
deepest_low : (ls more : List (List ℕ)) → deepest_start ls ≤ deepest_start (ls ++ more)
deepest_low [] more = omega arith
deepest_low (l ∷ ls) more = grind (arith, deepest_low ls more)

-- and one that is not of spaces alone raises it at most to its own
deepest_high : (ls : List (List ℕ)) (l : List ℕ) (more : List (List ℕ)) → is_spaces l ≡ false → deepest_start (ls ++ (l ∷ more)) ≤ max (deepest_start ls) (leading_spaces l)
deepest_high [] l more h = rw h (omega arith)
deepest_high (k ∷ ls) l more h = grind (arith, deepest_high ls l more h)

-- A line that is not deeper than the content column, and not of spaces alone, leaves the column as it is; so do the lines after it.
pub column_same : (digit collection : Option ℕ) (ls : List (List ℕ)) (l : List ℕ) (more : List (List ℕ)) → is_spaces l ≡ false → leading_spaces l ≤ column_by digit collection ls →
    column_by digit collection (ls ++ (l ∷ more)) ≡ column_by digit collection ls
column_same a b ls l more h k = grind (arith, deepest_low, deepest_high)

-- ---- further text

-- a line that is not of spaces alone, begins before a column or with a marker, and is no line of a scalar with this content column
pub record IsBefore (column : ℕ) (l : List ℕ) : Type 0 where
  pub written : is_spaces l ≡ false
  pub start : leading_spaces l ≤ column
  pub none : row_of column l ≡ None

-- a line that begins before a column, and not of spaces alone
abbrev Outside : ℕ → List ℕ → Type 0
Outside n l = (is_spaces l ≡ false) × (leading_spaces l < n)

outside : (n : ℕ) (t : List ℕ) → is_outside n t ≡ true → Outside n (up_to_break t)
unfolding is_break
outside (suc n) (c ∷ r) h = grind (arith, outside n r, eqb-true)
outside n t h = absurd (cc h)

-- a line that is neither of spaces alone nor content
no_row : (column : ℕ) (l : List ℕ) → is_spaces l ≡ false → is_content_line column l ≡ false → row_of column l ≡ None
unfolding row_of is_empty_line
no_row column l h k = rw (h, k) refl

-- a document marker in column 0 is no content
unmarked : (l : List ℕ) → is_document_marker l ≡ true → is_spaces l ≡ false → leading_spaces l ≤ 0 → IsBefore 0 l
unfolding is_content_line
unmarked l h w s = record { written = w; start = s; none = no_row 0 l w (grind arith) }

-- what holds of the two document markers
marks : (P : ℕ → ℕ → ℕ → Type 0) (a b c : ℕ) → are_marks a b c ≡ true → P 45 45 45 → P 46 46 46 → P a b c
unfolding are_marks
marks P a b c h p45 p46 = grind arith

marker : (t : List ℕ) → is_document_marker t ≡ true → IsBefore 0 (up_to_break t)
unfolding is_break are_marks
marker (a ∷ b ∷ c ∷ r) h =
    marks (λ a b c. IsBefore 0 (up_to_break (a ∷ b ∷ c ∷ r))) a b c (both _ _ h).0
    (unmarked (45 ∷ 45 ∷ 45 ∷ up_to_break r) (grind arith) refl (omega arith)) (unmarked (46 ∷ 46 ∷ 46 ∷ up_to_break r) (grind arith) refl (omega arith))
marker _ h = absurd (cc h)

-- Further text's first line is no line of the scalar before it.
pub further : (column : ℕ) (t : List ℕ) → is_further_text column t ≡ true → IsBefore column (up_to_break t)
unfolding is_content_line
further zero t h = marker t h
further (suc n) t h =
    let o : Outside (suc n) (up_to_break t) = outside (suc n) t h in
    record { written = o.0; start = omega (arith, o.1); none = no_row (suc n) (up_to_break t) o.0 (rw (lt-leb (suc n) (leading_spaces (up_to_break t)) o.1) refl) }

-- Further text does not begin with a line feed.
pub further_is_no_break : (column : ℕ) (t : List ℕ) → is_further_text column t ≡ true → begins_with 10 t ≡ false
unfolding is_break are_marks
further_is_no_break column a h = grind (arith, zero, eqb-true)

-- lines of which one is none of the scalar's
pub no_rows : (column : ℕ) (ls : List (List ℕ)) (l : List ℕ) (more : List (List ℕ)) → row_of column l ≡ None → rows_of column (ls ++ (l ∷ more)) ≡ None
no_rows column [] l more h = rw h refl
no_rows column (k ∷ ls) l more h = grind (arith, no_rows column ls l more h)
