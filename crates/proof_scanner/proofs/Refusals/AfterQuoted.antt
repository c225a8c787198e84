-- What may follow a scalar in quotes is not refused.
use Rattle.proof_scanner.proofs.Common.{[], append_assoc, arith, begins_with, Bool, ends_spaces, false, has_break, in_flow, is_blank, is_blanks, is_blanks_and_comment, is_break, is_on_line, is_separation, leading, line_is_done, List, may_follow_quoted, nat_tests, or_left, peek, Position, position_after, quoted_may_end, refl, ScannerState, true, Yes, ℕ, ◌++◌, ◌==◌, ◌∷◌, ◌≡◌, eqb-true}
use Rattle.yaml_chars.specs.Class as model_classes
use Rattle.proof_lexers.specs.PlainEnds as plains
use Rattle.proof_scanner.proofs.Refusals.Common.{Spaced, after_blanks, blanks_alone, not_at_end, same_has_break, same_line}

-- ---- the blanks after it

-- no comment stands directly after a quoted scalar
pub unglued : (flow : Bool) (piece next : List ℕ) → quoted_may_end flow piece next ≡ true → begins_with 35 next ≡ false
unfolding is_blank is_break
unglued flow piece a h = grind arith

-- ---- what stands there

-- a line on which something other than a comment stands after blanks holds more
more_stands : (s : List ℕ) (d : ℕ) (r : List ℕ) → is_blanks s ≡ true → is_break d ≡ false → is_blank d ≡ false → (d == 35) ≡ false → is_blanks_and_comment (leading is_on_line (s ++ d ∷ r)) ≡ false
unfolding is_blank is_break
more_stands [] d r b e f g = rw (e, g, f) refl
more_stands (c ∷ s) d r b e f g = grind (arith, nat_tests, more_stands s d r)

pub not_done : (s : List ℕ) (d : ℕ) (r : List ℕ) → is_blanks s ≡ true → is_break d ≡ false → is_blank d ≡ false → (d == 35) ≡ false → line_is_done (s ++ d ∷ r) ≡ false
unfolding is_blank is_break
not_done a d r b e f g = grind (arith, nat_tests, eqb-true, more_stands)

-- what stands after the blanks and a comment may follow
follows : (flow : Bool) (piece s rest : List ℕ) (same : Bool) → (has_break piece ≡ false → same ≡ true) → is_separation false s rest ≡ true → plains.has_break s ≡ false → ends_spaces Yes rest ≡ true → quoted_may_end flow piece (s ++ rest) ≡ true → may_follow_quoted flow same (peek rest) ≡ true
unfolding may_follow_quoted is_blank is_break model_classes.is_break
follows flow piece s rest same stays f h e may = grind (arith, nat_tests, blanks_alone, not_at_end, not_done, after_blanks, eqb-true, or_left)

-- ---- the check

-- After a piece at a position, and blanks and a comment, the check lets through what may follow a quoted scalar.
pub check_passes : (p : Position) (piece : List ℕ) (t u : ScannerState) → t.held.position ≡ position_after p piece t.rest → quoted_may_end (in_flow t.held) piece t.rest ≡ true → Spaced Yes t u → may_follow_quoted (in_flow u.held) (p.line == u.held.position.line) (peek u.rest) ≡ true
check_passes p piece t u is may s = grind (arith, nat_tests, eqb-true, append_assoc, same_line, same_has_break, follows)
