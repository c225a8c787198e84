-- The tokens that the scanner's model gives a text are those of its row, and so a text with these tokens means what they are read as.
use Rattle.proof_loads.proofs.Common.{Bool, clean_up_to_end, EventsAreOfTheRow, has_no_nul, IsWithoutNul, List, Means, ReadAs, subst, sym, Tok, tokens_are_of_a_row, Tree, true, ℕ, ◌≡◌, HasToks}
use Rattle.proof_loads.proofs.Answers.{placed_stream}

pub without_nul : (text : List ℕ) → IsWithoutNul text → has_no_nul text ≡ true
without_nul text without = subst (λ a. has_no_nul a ≡ true) without (clean_up_to_end text)

-- The model gives the text these tokens, and they are read as these trees.
pub means : {keep_tags : Bool} {text : List ℕ} {tokens : List Tok} {trees : List Tree} → IsWithoutNul text → HasToks text tokens → ReadAs keep_tags tokens trees → Means keep_tags text trees
means {keep_tags} {text} {tokens} {trees} without has read =
    record { tokens = has.0; has = tokens_are_of_a_row text has.0 (without_nul text without) has.1; read = subst (λ ts. ReadAs keep_tags ts trees) (sym has.2) read }

pub of_the_row : EventsAreOfTheRow
of_the_row keep_tags text events h = record { tokens = h.tokens; has = h.has; stream = placed_stream keep_tags h.tokens events h.stream }
