-- Spaces, breaks and comments after a `?`: what the model reads there is all of them, and no TAB is among them but in comments.
use Rattle.proof_scanner.proofs.Sound.Steps.{always, last_first}
use Rattle.proof_scanner.proofs.Common.{WhitespaceExpected, At, Bool, Err, Held, Holds, List, ScannerState, [], after_separation, and_false, and_parts, ap, append_cancel_right, arith, begins_white_space, begins_with, begins_with_space_or_break, both_hold, eqb-true, false, has_break, has_no_break, has_tab_before_piece, if◌then◌else◌, inr, is_at_gap, is_blank, is_blank_or_end, is_break, is_nul, is_one_of, is_separation, last_line, no_break_hash, not, or_true, refl, refused, same_break, skip_yaml_whitespace, slice_index, sym, true, weakened, went, white, ℕ, ◌++◌, ◌==◌, ◌||◌, ◌∙◌, ◌∷◌, ◌≡◌, ◌⊎◌, white_space_is_passed}
use Rattle.model_scanner.specs.Space.{at_break}
use Rattle.proof_scanner.proofs.Cut.Passes.{read_holds}

-- whether a character outside comments belongs to it
abbrev pub goes_over : ℕ → Bool
goes_over c = (c == 32) || is_break c || (c == 35)

-- the spaces, breaks and comments that a text begins with
abbrev pub white_of : (in_comment : Bool) → List ℕ → List ℕ
white_of in_comment [] = []
white_of true (c ∷ r) = c ∷ white_of (not (is_break c)) r
white_of false (c ∷ r) = (if goes_over c then c ∷ white_of (c == 35) r else [])

-- the text after them
abbrev pub past_white : (in_comment : Bool) → List ℕ → List ℕ
past_white in_comment [] = []
past_white true (c ∷ r) = past_white (not (is_break c)) r
past_white false (c ∷ r) = (if goes_over c then past_white (c == 35) r else c ∷ r)

pub white_cut : (in_comment : Bool) (a : List ℕ) → a ≡ white_of in_comment a ++ past_white in_comment a
white_cut b [] = refl
white_cut true (c ∷ r) = grind (arith, white_cut (not (is_break c)) r)
white_cut false (c ∷ r) = grind (arith, white_cut (c == 35) r)

-- Where no TAB comes after them, none stands outside comments before the next piece.
pub no_tab_before : (in_comment : Bool) (a : List ℕ) → begins_with 9 (past_white in_comment a) ≡ false → has_tab_before_piece in_comment a ≡ false
unfolding is_break
no_tab_before b [] h = refl
no_tab_before true (c ∷ r) h = no_tab_before (not (is_break c)) r h
no_tab_before false (c ∷ r) h = grind (arith, no_tab_before (c == 35) r)

-- ---- the last line of them

in_comment_ends : (a : List ℕ) → has_no_break (white_of true a) ≡ true → past_white true a ≡ []
in_comment_ends [] h = refl
in_comment_ends (c ∷ r) h = grind (arith, in_comment_ends r)

-- Its last line has no TAB, unless the text ends with it.
pub no_tab_in_last : (in_comment : Bool) (a : List ℕ) → (past_white in_comment a ≡ []) ⊎ (is_one_of (last_line (white_of in_comment a)) 9 ≡ false)
unfolding is_break
no_tab_in_last b [] = inr refl
no_tab_in_last true (c ∷ r) = grind (arith, in_comment_ends, last_first, eqb-true, no_tab_in_last (not (is_break c)) r)
no_tab_in_last false (c ∷ r) = grind (arith, eqb-true, last_first, has_break, no_tab_in_last (c == 35) r)

-- ---- what the model reads

-- after it
abbrev IsPastWhite : (in_comment leading : Bool) → List ℕ → ScannerState → Type 0
IsPastWhite b leading a u = (u.rest ≡ past_white b a) × (u.held.leading ≡ (leading || has_break (white_of b a)))

-- a line begins after a break, and after the line feed of CR LF
feed_after : (c : ℕ) (a : List ℕ) (s : Held) → is_break c ≡ true → ((at_break c a s).leading || has_break (white_of false a)) ≡ true
unfolding is_break
feed_after c a s e = grind (arith, feed, and_parts, or_true)
  where
    feed : (r : List ℕ) → (slice_index r 0 == 10) ≡ true → has_break (white_of false r) ≡ true
    feed [] h = absurd (cc h)
    feed (d ∷ r) h = let same : d ≡ 10 = eqb-true d 10 h in rw same refl

white_read : (in_comment found : Bool) (a : List ℕ) (s : Held) → Holds (IsPastWhite in_comment s.leading a) (white in_comment found a s)
unfolding white is_break
white_read b found [] s = grind (arith, went, refused)
white_read i found (c ∷ a) s = grind (arith, same_break, weakened, feed_after, or_true, no_break_hash, eqb-true, went, refused, white_read true found a, white_read false true a, white_read true true a)

-- The state after spaces, breaks and comments.
abbrev pub past_white_space : ScannerState → ScannerState
past_white_space t = after_separation t.held (t.held.leading || has_break (white_of false t.rest)) (white_of false t.rest) (past_white false t.rest)

-- They are a separation, and all of them are read.
pub white_exactly : (t : ScannerState) → Holds (λ u. (u ≡ past_white_space t) × (is_separation false (white_of false t.rest) (past_white false t.rest) ≡ true)) (skip_yaml_whitespace t)
unfolding skip_yaml_whitespace
white_exactly t = weakened (λ u q.
    let p = q.0 in
    let k = q.1 in
    let same : p.separation ≡ white_of false t.rest = append_cancel_right p.separation (white_of false t.rest) u.rest (sym p.cut ∙ (white_cut false t.rest ∙ ap (λ r. white_of false t.rest ++ r) (sym k.0))) in
    grind (arith, p, k, same)) (both_hold (read_holds (white_space_is_passed t.held t.rest)) (white_read false false t.rest t.held))

-- no TAB is among them but in comments
pub no_tab_in : (in_comment : Bool) (a : List ℕ) → has_tab_before_piece in_comment (white_of in_comment a) ≡ false
unfolding is_break
no_tab_in b [] = refl
no_tab_in true (c ∷ r) = grind (arith, no_tab_in (not (is_break c)) r)
no_tab_in false (c ∷ r) = grind (arith, and_false, eqb-true, no_tab_in (c == 35) r)

-- Neither a space nor a break stands there, and that is refused.
pub record IsMissed (more : List ℕ) (s : Held) : Type 0 where
  pub is_refused : white false false more s ≡ Err (At WhitespaceExpected s.position)
  pub no_space : begins_with 32 more ≡ false
  pub ends : begins_white_space more ≡ false

-- one of them stands after a `?` that is at a gap, or it is refused
pub white_or_missed : (more : List ℕ) (s : Held) → is_at_gap more ≡ true → (begins_with_space_or_break more ≡ true) ⊎ IsMissed more s
unfolding white is_blank_or_end is_blank is_break is_nul
white_or_missed b s gap = grind (arith, same_break, or_true)

-- what stands after a `?`, where it is at a gap, is a space or a break
pub white_first : (more : List ℕ) (s : Held) → is_at_gap more ≡ true → Holds (λ u. begins_with_space_or_break more ≡ true) (white false false more s)
white_first more s gap = grind (arith, white_or_missed, always, refused)
