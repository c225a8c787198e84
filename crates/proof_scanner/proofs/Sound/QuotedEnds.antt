-- What the scanner checks after a quoted scalar: the line holds no more, or goes on as it may.
use Rattle.proof_scanner.proofs.Common.{Bool, Err, Fault, Holds, List, Ok, Position, Result, ScannerState, SkipTabs, Yes, [], after, and_parts, append_assoc, arith, begins_with, both_hold, chained, check_after_quoted, either, eqb-true, false, goes_on_quoted, has_break, has_no_nul, in_flow, is_at_line_end, is_blank, is_blanks, is_blanks_and_comment, is_break, is_breakz, is_nul, is_on_line, is_separation, leading, line_is_done, may_follow_quoted, no_nul_after, not, or_right, peek, position_after, position_past, quoted_may_end, refl, refused, skip_spaces, space, true, went, ℕ, ◌++◌, ◌<◌, ◌==◌, ◌∷◌, ◌≡◌, ◌≤◌, nat_tests}
use Rattle.yaml_chars.specs.Class as model_classes
use Rattle.proof_lexers.specs.PlainEnds as plains
use Rattle.proof_scanner.proofs.Cut.Passes.{Spaced, spaces_skipped}
use Rattle.proof_scanner.proofs.Cut.Positions.{not_before_after}

-- ---- lines

-- whether the last character of a text is no break
abbrev pub ends_in_line : List ℕ → Bool
ends_in_line [] = true
ends_in_line (c ∷ []) = not (is_break c)
ends_in_line (c ∷ d ∷ r) = ends_in_line (d ∷ r)

-- A text with a break, whose last character is none, ends on a later line.
pub broken_later : (p : Position) (a next : List ℕ) → ends_in_line a ≡ true → has_break a ≡ true → p.line < (position_after p a next).line
unfolding is_break
broken_later p (c ∷ d ∷ a) next e h = grind (arith, not_before_after, eqb-true, and_parts, broken_later (position_past p c (d ∷ (a ++ next))) (d ∷ a) next e)
broken_later p a next e h = grind arith

-- on the same line there is no break
pub on_one_line : (p : Position) (a next : List ℕ) → ends_in_line a ≡ true → (position_after p a next).line ≤ p.line → has_break a ≡ false
on_one_line p a next e h = grind (arith, has_break, broken_later)

-- without a break the line stays
pub same_line : (p : Position) (a next : List ℕ) → plains.has_break a ≡ false → (position_after p a next).line ≡ p.line
same_line p [] next h = refl
same_line p (c ∷ a) next h = grind (arith, same_line (position_past p c (a ++ next)) a next)

-- ---- the rest of a line

-- a separation without a break is blanks and maybe a comment
pub blanks_and_comment : (s next : List ℕ) → is_separation false s next ≡ true → plains.has_break s ≡ false → is_blanks_and_comment s ≡ true
blanks_and_comment [] next f h = refl
blanks_and_comment (c ∷ s) next f h = grind (arith, blanks_and_comment s next)

-- before what does not end the line it is blanks alone
pub blanks_alone : (in_comment : Bool) (s next : List ℕ) → is_separation in_comment s next ≡ true → plains.has_break s ≡ false → is_at_line_end next ≡ false → (in_comment ≡ false) × (is_blanks s ≡ true)
blanks_alone a [] next f h e = grind arith
blanks_alone a (c ∷ s) next f h e = grind (arith, blanks_alone true s next, blanks_alone false s next)

-- up to the line's end
pub leading_line : (s next : List ℕ) → plains.has_break s ≡ false → is_at_line_end next ≡ true → has_no_nul next ≡ true → leading is_on_line (s ++ next) ≡ s
leading_line [] a h e n = grind arith
leading_line (c ∷ s) next h e n = grind (arith, leading_line s next)

-- past blanks
pub after_blanks : (s next : List ℕ) → is_blanks s ≡ true → after is_blank (s ++ next) ≡ after is_blank next
after_blanks [] next h = refl
after_blanks (c ∷ s) next h = grind (arith, after_blanks s next)

-- a line with nothing but blanks and a comment, which no comment begins
pub is_done : (s next : List ℕ) → is_separation false s next ≡ true → plains.has_break s ≡ false → is_at_line_end next ≡ true → has_no_nul next ≡ true → begins_with 35 (s ++ next) ≡ false → line_is_done (s ++ next) ≡ true
is_done s next f h e n g = grind (arith, leading_line, blanks_and_comment)

-- ---- what is skipped

pub always : {A : Type 0} {P : A → Type 0} (r : Result A Fault) → ((x : A) → P x) → Holds P r
always (Ok x) f = went (f x)
always (Err e) f = refused

-- no comment stands directly where blanks are skipped
pub unglued : (tabs : SkipTabs) (t : ScannerState) → Holds (λ u. begins_with 35 t.rest ≡ false) (skip_spaces tabs t)
unfolding skip_spaces space
unglued tabs t = grind (arith, always, eqb-true, refused)

-- ---- after a quoted scalar

pub at_end_of : (r : List ℕ) → is_breakz (peek r) ≡ true → is_at_line_end r ≡ true
unfolding model_classes.is_break is_break is_nul
at_end_of a h = grind arith

pub not_at_end : (r : List ℕ) → is_breakz (peek r) ≡ false → is_at_line_end r ≡ false
unfolding model_classes.is_break is_break is_nul
not_at_end a h = grind arith

-- what may follow, by the character that stands there
comes_by : (flow : Bool) (piece : List ℕ) (line here : ℕ) (c : ℕ) (r : List ℕ) → ((line == here) ≡ true → has_break piece ≡ false) → may_follow_quoted flow (line == here) c ≡ true → is_breakz c ≡ false → (goes_on_quoted flow piece (c ∷ r) ≡ true) × (is_blank c ≡ false)
unfolding may_follow_quoted is_blank
comes_by a piece b d c r e h g = grind arith

-- After a quoted scalar at a position the check lets through only what may follow it.
may_end_by : (flow : Bool) (p : Position) (piece s rest : List ℕ) (here : Position) → ends_in_line piece ≡ true → has_no_nul rest ≡ true → is_separation false s rest ≡ true → plains.has_break s ≡ false → begins_with 35 (s ++ rest) ≡ false →
    here ≡ position_after (position_after p piece (s ++ rest)) s rest → may_follow_quoted flow (p.line == here.line) (peek rest) ≡ true → quoted_may_end flow piece (s ++ rest) ≡ true
unfolding model_classes.is_break
may_end_by flow p piece s rest here in_line none f h no_hash is follows = grind (arith, nat_tests, eqb-true, is_done, at_end_of, blanks_alone, not_at_end, or_right, after_blanks, some)
  where
    some : (r : List ℕ) → is_breakz (peek r) ≡ false → may_follow_quoted flow (p.line == here.line) (peek r) ≡ true → goes_on_quoted flow piece (after is_blank r) ≡ true
    some [] e k = absurd (cc e)
    some (c ∷ r) e k = let q = comes_by flow piece p.line here.line c r (grind (arith, same_line, eqb-true, on_one_line)) k e in rw q.1 q.0

-- blanks and a comment were skipped after a piece, and what stands there may follow a quoted scalar
pub record Checked (piece : List ℕ) (t u : ScannerState) : Type 0 where
  pub spaces : Spaced Yes t u
  pub may_end : quoted_may_end (in_flow t.held) piece t.rest ≡ true

checks : (p : Position) (piece : List ℕ) (t u : ScannerState) → ends_in_line piece ≡ true → has_no_nul t.rest ≡ true → t.held.position ≡ position_after p piece t.rest → Spaced Yes t u → begins_with 35 t.rest ≡ false →
    may_follow_quoted (in_flow u.held) (p.line == u.held.position.line) (peek u.rest) ≡ true → Checked piece t u
checks p piece t u in_line none is s no_hash follows =
    let may_end = may_end_by (in_flow t.held) p piece (s.blanks ++ s.comment) u.rest u.held.position in_line in grind (arith, s, may_end, append_assoc, no_nul_after)

pub quoted_checked : (p : Position) (piece : List ℕ) (t : ScannerState) → ends_in_line piece ≡ true → has_no_nul t.rest ≡ true → t.held.position ≡ position_after p piece t.rest → Holds (Checked piece t) (check_after_quoted p.line t)
unfolding check_after_quoted
quoted_checked p piece t in_line none is =
    chained (both_hold (spaces_skipped Yes t) (unglued Yes t)) (λ u s. either (may_follow_quoted (in_flow u.held) (p.line == u.held.position.line) (peek u.rest)) (λ yes. went (checks p piece t u in_line none is s.0 s.1 yes)) (λ no. refused))
