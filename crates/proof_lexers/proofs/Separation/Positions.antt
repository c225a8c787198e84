-- The position after two texts, and after a text of one line.
use Rattle.proof_lexers.proofs.Common.{[], append_assoc, further, has_no_break, length, List, past, Position, position_after, position_past, refl, true, ℕ, ◌++◌, ◌∷◌, ◌≡◌, arith, none_further, one_further}
use Rattle.proof_lexers.proofs.Plain.Turns.{in_line_position}

-- the position after two texts
pub position_append : (p : Position) (a b next : List ℕ) → position_after p (a ++ b) next ≡ position_after (position_after p a (b ++ next)) b next
position_append p [] b next = refl
position_append p (c ∷ a) b next = grind (arith, append_assoc, position_append (position_past p c (a ++ (b ++ next))) a b next)

-- the position after a text without a break
pub position_in_line : (p : Position) (a next : List ℕ) → has_no_break a ≡ true → further (length a) p ≡ position_after p a next
position_in_line p [] next h = none_further p
position_in_line p (c ∷ a) next h = grind (arith, one_further, in_line_position, position_in_line (past p) a next)
