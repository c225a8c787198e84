-- The first lines give the content column.
use Rattle.proof_lexers.proofs.Common.{[], along, and_parts, ap, append-nil, arith, collection_of, Column, column_by, deepest_start, digit_by, false, First, first_indent, FirstLinesGiveTheColumn, indent_from, is_break, is_in_line, is_spaces, leading_spaces, least_column, List, max, past, Position, Read, refl, suc, sym, true, zero, ℕ, ◌++◌, ◌+◌, ◌==◌, ◌∷◌, ◌≡◌, ◌≤◌, nat_tests, past_break}
use Rattle.model_scanner.specs.BlockScalar.{content}
use Rattle.proof_lexers.proofs.Blocks.Margins.{after_break, after_line, AreLines, at, Break, col_along, first_inner, Fits, Line, lined, put, spell, split_spell, texts}
use Rattle.proof_lexers.proofs.Blocks.Columns.{spaces_leading}

-- within the spaces of a first line
abbrev looking : ℕ → Position → List ℕ → First
looking most p b = record { most = most; spaces = p.col; position = p; breaks = b }

first_spaces : (w a : List ℕ) (most : ℕ) (p : Position) (b : List ℕ) → is_spaces w ≡ true → first_indent (w ++ a) (looking most p b) ≡ first_indent a (looking most (along w p) b)
first_spaces [] a most p b h = refl
first_spaces (c ∷ w) a most p b h = let q = and_parts (c == 32) (is_spaces w) h in rw (q.0) (first_spaces w a most (past p) b q.1)

first_break : (k : Break) (a : List ℕ) (most : ℕ) (p : Position) (b : List ℕ) → Fits k a → first_indent (put k a) (looking most p b) ≡ first_indent a (looking (max most p.col) (after_break k p) (b ++ 10 ∷ []))
unfolding is_break
first_break d a most p b fits = grind arith

abbrev with_column : ℕ → Read Column → Read Column
with_column n r = record { rest = r.rest; position = r.position; value = record { column = n; breaks = r.value.breaks } }

-- the column that is found is not less than one that was seen before
first_least : (a : List ℕ) (s : First) → s.spaces ≤ s.position.col → max s.most s.spaces ≤ (first_indent a s).value.column
first_least [] s le = omega arith
first_least (c ∷ a) s le = grind (
  arith,
  first_least a (record s { position = past s.position }),
  first_least a (record s { spaces = s.position.col + 1; position = past s.position }),
  first_least a (record { most = max s.most s.spaces; spaces = 0; position = past_break s.position; breaks = s.breaks ++ 10 ∷ [] }),
)

-- The search passes what a search up to a column passes that is at least the one it finds.
first_is_indent : (column : ℕ) (a : List ℕ) (s : First) → (first_indent a s).value.column ≤ column
    → first_indent a s ≡ with_column (first_indent a s).value.column (indent_from column a (at s.position s.breaks))
first_is_indent column [] s le = refl
first_is_indent column (c ∷ a) s le = grind (
  arith,
  nat_tests,
  first_least a (record s { spaces = s.position.col + 1; position = past s.position }),
  first_is_indent column a (record s { position = past s.position }),
  first_is_indent column a (record s { spaces = s.position.col + 1; position = past s.position }),
  first_is_indent column a (record { most = max s.most s.spaces; spaces = 0; position = past_break s.position; breaks = s.breaks ++ 10 ∷ [] }),
)

-- a line that isn't of spaces alone ends the search
first_other : (w a : List ℕ) (most : ℕ) (p : Position) (b : List ℕ) → is_spaces w ≡ false → is_in_line w ≡ true
    → (first_indent (w ++ a) (looking most p b)).value.column ≡ max most (p.col + leading_spaces w)
first_other [] a most p b h inner = cc
first_other (c ∷ w) a most p b h inner = grind (arith, nat_tests, first_inner, first_other w a most (past p) b)

-- The column that is found is that of the deepest line of spaces, or of the first other line.
first_column_is : (ls : List Line) (last : List ℕ) (most : ℕ) (p : Position) (b : List ℕ) → p.col ≡ 0 → AreLines ls last
    → is_in_line last ≡ true
    → (first_indent (spell ls last) (looking most p b)).value.column ≡ max most (deepest_start (texts ls ++ last ∷ []))
first_column_is [] last most p b col are inner =
    grind (arith, append-nil, first_spaces last [] most p b, first_other last [] most p b, spaces_leading, col_along)
first_column_is (l ∷ ls) last most p b col are inner = grind (
  arith,
  first_spaces l.text (put l.by (spell ls last)) most p b,
  first_break l.by (spell ls last) most (along l.text p) b are.1,
  first_other l.text (put l.by (spell ls last)) most p b,
  spaces_leading l.text,
  col_along l.text p,
  first_column_is ls last (max most (along l.text p).col) (after_line l p) (b ++ 10 ∷ []) refl are.2 inner,
)

-- ---- with a digit and without one

abbrev pub column_for : (indent increment : ℕ) → List Line → List ℕ → ℕ
column_for indent increment ls last = column_by (digit_by increment) (collection_of indent) (texts ls ++ last ∷ [])

pub least_is : (indent : ℕ) → least_column (collection_of indent) ≡ indent
least_is a = grind (arith, nat_tests)

-- The lines before content are passed up to the content column.
pub content_is : (indent increment : ℕ) (ls : List Line) (last : List ℕ) (p : Position) → p.col ≡ 0 → AreLines ls last → is_in_line last ≡ true
    → content indent increment (spell ls last) p ≡ indent_from (column_for indent increment ls last) (spell ls last) (at p [])
unfolding content
content_is indent zero ls last p col are inner =
    let K = column_for indent 0 ls last in
    let least = least_is indent in
    let start : record { most = 0; spaces = 0; position = p; breaks = [] } ≡ looking 0 p [] = ap (λ k. record { most = 0; spaces = k; position = p; breaks = [] }) (sym col) in
    let found = first_column_is ls last 0 p [] col are inner in
    let same : max (max 0 (deepest_start (texts ls ++ last ∷ []))) indent ≡ K = omega (arith, least) in
    let passes = first_is_indent K (spell ls last) (looking 0 p []) (omega (arith, found, same)) in
    grind (arith, start, found, same, passes)
content_is indent (suc n) ls last p col are inner = grind (arith, nat_tests)

pub first_lines : FirstLinesGiveTheColumn
first_lines indent increment text p col = let z = lined text in grind (arith, nat_tests, split_spell, content_is, digit_by, z)
