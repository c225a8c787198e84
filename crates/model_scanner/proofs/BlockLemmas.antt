-- Lemmas about the scan of a block scalar.
use Rattle.model_scanner.proofs.Common.{[], arith, At, begins, begun, Bool, chomping, ends_indent, Err, false, First, first_indent, header_break, increment, indent_from, is_break, is_digit, line, linebreak, Lines, lines_from, List, Margin, margin, max, nat_lt, nat_tests, no_tab, Ok, past, Position, refl, slice_index, true, ℕ, ◌&&◌, ◌==◌, ◌∷◌, ◌≡◌, ◌≢◌}
use Rattle.yaml_tokens.specs.declared.problem.Problem.TheVariants as problem
use Rattle.yaml_tokens.specs.declared.token.Chomping.TheVariants.{Clip}
use Rattle.model_scanner.specs.BlockScalar.{with_char}

-- where no indicator stands
pub no_chomping : (c : ℕ) (a : List ℕ) (p : Position) → c ≡ slice_index a 0 → (c == 43) ≡ false → (c == 45) ≡ false → chomping a p ≡ record { rest = a; position = p; value = Clip }
unfolding chomping
no_chomping c [] p e plus minus = refl
no_chomping c (d ∷ a) p e plus minus = let s : (d == 43) ≡ false = rw e at plus in let t : (d == 45) ≡ false = rw e at minus in rw (s, t) refl

pub no_increment : (start : Position) (c : ℕ) (a : List ℕ) (p : Position) → c ≡ slice_index a 0 → is_digit c ≡ false → increment start a p ≡ Ok (record { rest = a; position = p; value = 0 })
unfolding increment
no_increment start c [] p e h = refl
no_increment start c (d ∷ a) p e h = let g : is_digit d ≡ false = rw e at h in rw g refl

pub break_stands : (start : Position) (c : ℕ) (a : List ℕ) (p : Position) → c ≡ slice_index a 0 → is_break c ≡ true → header_break start a p ≡ no_tab start (linebreak a p)
unfolding header_break is_break
break_stands start c [] p e h = grind (arith, nat_tests)
break_stands start c (d ∷ a) p e h = let g : is_break d ≡ true = rw e at h in rw g refl

pub header_fails : (start : Position) (c : ℕ) (a : List ℕ) (p : Position) → c ≡ slice_index a 0 → c ≢ 0 → is_break c ≡ false → header_break start a p ≡ Err (At problem.BlockScalarHeader start)
unfolding header_break
header_fails start c [] p e some h = absurd (some e)
header_fails start c (d ∷ a) p e some h = let g : is_break d ≡ false = rw e at h in rw g refl

-- neither indentation nor a break stands here
at_other : (column col c : ℕ) (a : List ℕ) → ends_indent column col (c ∷ a) ≡ true → (is_break c ≡ false) × (((c == 32) && nat_lt col column) ≡ false)
unfolding ends_indent
at_other column col c a h = (grind arith, grind arith)

pub stop_lines : (literal : Bool) (column : ℕ) (a : List ℕ) (p : Position) (l : Lines) → ends_indent column p.col a ≡ true → begins column p.col a ≡ false
    → lines_from literal column a (record { mode = margin; position = p; lines = l }) ≡ Ok (record { rest = a; position = p; value = l })
stop_lines literal column [] p l e h = refl
stop_lines literal column (c ∷ a) p l e h = let other = at_other column p.col c a e in rw (other.1, other.0, h) refl

pub begin_lines : (literal : Bool) (column : ℕ) (a b : List ℕ) (c : ℕ) (p : Position) (l : Lines) → a ≡ c ∷ b → ends_indent column p.col a ≡ true → begins column p.col a ≡ true
    → lines_from literal column a (record { mode = margin; position = p; lines = l }) ≡ lines_from literal column b (record { mode = line; position = past p; lines = with_char c (begun literal c l) })
begin_lines literal column a b c p l is e h =
    let other = at_other column p.col c b (rw is at e) in
    let here = rw is at h in
    rw (is, other.1, other.0, here) refl

-- where neither a space nor a break stands
pub first_stop : (c : ℕ) (a : List ℕ) (s : First) → c ≡ slice_index a 0 → (c == 32) ≡ false → is_break c ≡ false → first_indent a s ≡ record { rest = a; position = s.position; value = record { column = max s.most s.spaces; breaks = s.breaks } }
first_stop c [] s e space break = refl
first_stop c (d ∷ a) s e space break = let t : (d == 32) ≡ false = rw e at space in let b : is_break d ≡ false = rw e at break in rw (t, b) refl

pub indent_stop : (column : ℕ) (a : List ℕ) (s : Margin) → ends_indent column s.position.col a ≡ true → indent_from column a s ≡ record { rest = a; position = s.position; value = record { column = column; breaks = s.breaks } }
indent_stop column [] s h = refl
indent_stop column (c ∷ a) s h = let other = at_other column s.position.col c a h in rw (other.1, other.0) refl
