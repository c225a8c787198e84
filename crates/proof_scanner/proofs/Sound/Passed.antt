-- What holds between two fetches still holds at the next token, or at the text's end, with the separation up to there.
use Rattle.proof_scanner.proofs.Common.{AreLevels, Bool, HasPassed, Held, Holds, IsLive, IsReadOn, Key, List, MayChoose, Ok, Option, Position, Previous, ScannerState, Some, [], another, ap, append-nil, arith, begins_free_line, begins_separation, between, columns, eqb-true, false, has_break, has_open_level, is_blank, is_empty, is_no_comment, is_renewed, is_separation, leading, least_column, or-false, plain_scalar, position_after, refl, same_blank, same_break, separations_are_passed, skip, skip_to_next_token, true, ℕ, ◌++◌, ◌||◌, ◌∙◌, ◌∷◌, ◌≡◌}
use Rattle.proof_lexers.specs.PlainEnds as plain_ends
use Rattle.proof_scanner.proofs.Cut.Passes.{read_holds}
use Rattle.proof_scanner.proofs.Sound.Common.{break_append, not_before_after}
use Rattle.proof_scanner.proofs.Sound.Skips.{IsLeast}

-- ---- what stands at a token

-- where no separation begins, nothing is skipped
pub skip_stays : (a : List ℕ) (s : Held) → begins_separation a ≡ false → skip between a s ≡ Ok (record { rest = a; held = s })
unfolding skip is_blank
skip_stays b s h = grind (arith, same_break, same_blank, eqb-true)

-- ---- what was passed

-- From one state to another a separation was passed, up to a token or the text's end.
abbrev pub Exact : ScannerState → ScannerState → Type 0
Exact t u = HasPassed begins_separation t.held t.rest u

pub exact : (t : ScannerState) → Holds (Exact t) (skip_to_next_token t)
unfolding skip_to_next_token
exact t = read_holds (separations_are_passed t.held t.rest)

-- a text that goes on after a part goes on from it
pub goes_on : (g rest rest2 : List ℕ) → rest ≡ g ++ rest2 → is_empty rest2 ≡ false → is_empty rest ≡ false
goes_on [] rest rest2 e h = ap is_empty e ∙ h
goes_on (c ∷ g) rest rest2 e h = ap is_empty e

-- a key that may be one after a separation may be one before it
pub live_before_it : (k : Key) (p : Position) (g rest rest2 : List ℕ) → rest ≡ g ++ rest2 → IsLive k (position_after p g rest2) rest2 → IsLive k p rest
live_before_it k p g rest rest2 e l = (omega (arith, (not_before_after p g rest2).0, l.0), (goes_on g rest rest2 e l.1))

pub may_before : (strict c : Bool) (k : Option Key) (p : Position) (g rest rest2 : List ℕ) → rest ≡ g ++ rest2 → MayChoose strict c k (position_after p g rest2) rest2 → MayChoose strict c k p rest
may_before true true (Some k) p g rest rest2 e m = live_before_it k p g rest rest2 e m
may_before strict c k p g rest rest2 e m = grind arith

-- ---- what the last piece asks of the separation

pub same_has_break : (g : List ℕ) → plain_ends.has_break g ≡ has_break g
same_has_break [] = refl
same_has_break (c ∷ g) = grind (arith, same_has_break g)

leading_stop : (g p : List ℕ) (c : ℕ) → is_no_comment c ≡ false → leading is_no_comment (g ++ c ∷ p) ≡ leading is_no_comment g
leading_stop [] p c h = rw h refl
leading_stop (d ∷ g) p c h = grind (arith, leading_stop g p c h)

-- whether a key may begin again in an entry is known before all of the separation is passed
pub renewed_alike : (b : Previous) (q : Position) (f g rest rest2 : List ℕ) → rest ≡ g ++ rest2 → is_separation false g rest2 ≡ true → IsReadOn b q f rest → is_renewed b (f ++ g) ≡ is_renewed b f
renewed_alike plain_scalar q f (c ∷ p) rest rest2 cut fills r = grind (arith, leading_stop)
renewed_alike b q f g rest rest2 cut fills r = grind (arith, append-nil)

-- a key may begin on a line after what was passed, or what was passed before
pub free_line_append : (b : Previous) (q : Position) (f g rest rest2 : List ℕ) → rest ≡ g ++ rest2 → IsReadOn b q f rest → begins_free_line b (f ++ g) ≡ (begins_free_line b f || has_break g)
free_line_append a q f g rest rest2 cut r = grind (arith, append-nil, or-false, break_append)

-- what was read on over stays so
pub read_on_append : (b : Previous) (q : Position) (f g rest rest2 : List ℕ) → rest ≡ g ++ rest2 → begins_separation rest2 ≡ false → IsReadOn b q f rest → IsReadOn b q (f ++ g) rest2
read_on_append a q f g rest rest2 cut solid r = grind (arith, goes_on)

-- ---- the least column

pub least_is : (bs : List ℕ) (aw : Bool) (s : Held) → bs ≡ columns s.indent s.indents → aw ≡ has_open_level s.indents → AreLevels s.indent s.indents → IsLeast another (least_column bs aw) s
least_is bs aw s b w a = grind arith
