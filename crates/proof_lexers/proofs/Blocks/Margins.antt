-- What the model does before content: spaces and breaks.
use Rattle.proof_lexers.proofs.Common.{[], along, ap, append-nil, arith, BlockState, Bool, indent_from, is_break, is_spaces, length, Lines, lines_from, List, Margin, margin, past, past_break, Position, refl, sym, true, ℕ, ◌++◌, ◌+◌, ◌∙◌, ◌∷◌, ◌≡◌, ◌≤◌, nat_tests}
pub use Rattle.proof_lexers.proofs.Blocks.Written.{AreLines, both, Break, carriage, feed, first_inner, Fits, Line, lined, Lined, put, spell, split_spell, texts}

-- the position after a break
abbrev pub before_break : Break → Position → Position
before_break feed p = p
before_break carriage p = p
before_break both p = past p

abbrev pub after_break : Break → Position → Position
after_break b p = past_break (before_break b p)

-- the position after a line, and after lines
abbrev pub after_line : Line → Position → Position
after_line l p = after_break l.by (along l.text p)

abbrev pub after_lines : List Line → Position → Position
after_lines [] p = p
after_lines (l ∷ ls) p = after_lines ls (after_line l p)

pub lines_front : (ls : List Line) (q : Position) → q.col ≡ 0 → (after_lines ls q).col ≡ 0
lines_front [] q e = e
lines_front (l ∷ ls) q e = lines_front ls (after_line l q) refl

-- ---- looking for content in a column

abbrev pub at : Position → List ℕ → Margin
at p b = record { position = p; breaks = b }

-- within a line's indentation
abbrev pub before : Position → Lines → List ℕ → BlockState
before p l b = record { mode = margin; position = p; lines = record l { breaks = b } }

-- The scan of the lines passes what the search for content passes.
pub margin_passes : (literal : Bool) (column : ℕ) (a : List ℕ) (p : Position) (l : Lines) (b : List ℕ)
    → lines_from literal column a (before p l b) ≡ lines_from literal column (indent_from column a (at p b)).rest (before (indent_from column a (at p b)).position l (indent_from column a (at p b)).value.breaks)
margin_passes literal column [] p l b = refl
margin_passes literal column (c ∷ a) p l b = grind (arith, margin_passes literal column a (past p) l b, margin_passes literal column a (past p) l b, margin_passes literal column a (past_break p) l (b ++ 10 ∷ []))

-- ---- spaces

along_spaces : (column : ℕ) (w a : List ℕ) (p : Position) (b : List ℕ) → is_spaces w ≡ true → p.col + length w ≤ column → indent_from column (w ++ a) (at p b) ≡ indent_from column a (at (along w p) b)
along_spaces column [] a p b h le = refl
along_spaces column (c ∷ w) a p b h le = grind (arith, nat_tests, along_spaces column w a (past p) b)

pub col_along : (w : List ℕ) (p : Position) → (along w p).col ≡ p.col + length w
col_along [] p = omega arith
col_along (c ∷ w) p = col_along w (past p) ∙ omega arith

-- a line of spaces that ends at the column or before it
pub empty_passes : (column : ℕ) (l : Line) (a : List ℕ) (p : Position) (b : List ℕ) → is_spaces l.text ≡ true → p.col + length l.text ≤ column → Fits l.by a
    → indent_from column (l.text ++ put l.by a) (at p b) ≡ indent_from column a (at (after_line l p) (b ++ 10 ∷ []))
unfolding is_break
empty_passes column l a p b h le fits = along_spaces column l.text (put l.by a) p b h le ∙ (grind arith)

pub last_passes : (column : ℕ) (w : List ℕ) (p : Position) (b : List ℕ) → is_spaces w ≡ true → p.col + length w ≤ column → indent_from column w (at p b) ≡ record { rest = []; position = along w p; value = record { column = column; breaks = b } }
last_passes column w p b h le = ap (λ a. indent_from column a (at p b)) (sym (append-nil w)) ∙ along_spaces column w [] p b h le
