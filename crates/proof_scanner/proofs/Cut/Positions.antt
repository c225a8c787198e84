-- Positions after texts, and after rows of pieces.
use Rattle.proof_scanner.proofs.Common.{[], account_past_row, After, append_assoc, arith, ends_line, eqb-true, false, has_no_break, is_before_line_feed, is_break, is_empty, length, List, nat_tests, NotBefore, Position, position_after, position_append, position_past, refl, suc, true, Written, ℕ, ◌++◌, ◌+◌, ◌==◌, ◌∷◌, ◌≡◌, ◌≤◌}
use Rattle.defs_token.specs.Account.{Account}
use Rattle.defs_token.specs.Cut.{account_past, spelled}

pub not_before_same : (p : Position) → NotBefore p p
not_before_same p = (omega arith, λ h. omega arith)

pub not_before_then : (p q r : Position) → NotBefore p q → NotBefore q r → NotBefore p r
not_before_then p q r a b = (omega (arith, a.0, b.0), λ h. omega (arith, a.1 (omega (arith, h, b.0)), b.1 (omega (arith, h, a.0))))

pub weaker : (p q : Position) → After p q → NotBefore p q
weaker p q a = (a.0, λ h. omega (arith, a.1 h))

pub not_before_after : (p : Position) (a next : List ℕ) → NotBefore p (position_after p a next)
not_before_after p [] next = not_before_same p
not_before_after p (c ∷ a) next =
    let q : Position = position_past p c (a ++ next) in
    not_before_then p q (position_after q a next) (weaker p q (grind arith)) (not_before_after q a next)

-- the index counts characters
pub index_after : (p : Position) (a next : List ℕ) → (position_after p a next).index ≡ p.index + length a
index_after p [] next = omega arith
index_after p (c ∷ a) next =
    let index_past : (position_past p c (a ++ next)).index ≡ suc p.index = grind arith in
    omega (arith, index_after (position_past p c (a ++ next)) a next, index_past)

-- the position after a piece
pub after_piece : (p : Position) (piece next : List ℕ) → is_empty piece ≡ false → After p (position_after p piece next)
after_piece p a next h = grind (arith, nat_tests, eqb-true, not_before_after)

-- ---- the position after a row of pieces and a separation is that after the text that they spell

pub spelled_before : (ws : List Written) (after : List ℕ) → spelled ws after ≡ spelled ws [] ++ after
spelled_before [] after = refl
spelled_before (w ∷ ws) after = grind (arith, nat_tests, eqb-true, append_assoc, spelled_before ws after)

pub row_position : (a : Account) (ws : List Written) (after : List ℕ) → (account_past_row a ws after).position ≡ position_after a.position (spelled ws []) after
row_position a [] after = refl
row_position a (w ∷ ws) after = grind (arith, append_assoc, spelled_before, position_append, row_position (account_past a w (spelled ws after)) ws after)

-- ---- lines

line_stays : (p : Position) (d : ℕ) (r : List ℕ) → ends_line d r ≡ false → (position_past p d r).line ≡ p.line
line_stays p d r h = rw h refl

-- CR LF ends a line
two_end : (p : Position) (d : ℕ) (t : List ℕ) (c : ℕ) (r : List ℕ) → (c == 10) ≡ false → is_before_line_feed d (t ++ (c ∷ r)) ≡ true → suc p.line ≤ (position_after (position_past p d (t ++ (c ∷ r))) t (c ∷ r)).line
unfolding is_break
two_end p d [] c r n l = grind arith
two_end p d (e ∷ t) c r n l = grind (arith, not_before_after)

-- a text after which the line is still the same has no break
pub no_break_on_line : (p : Position) (t : List ℕ) (c : ℕ) (r : List ℕ) → (c == 10) ≡ false → (position_after p t (c ∷ r)).line ≤ p.line → has_no_break t ≡ true
no_break_on_line p [] c r n h = refl
no_break_on_line p (d ∷ t) c r n h = grind (arith, line_stays, two_end, not_before_after, no_break_on_line (position_past p d (t ++ (c ∷ r))) t c r)
