-- After the stream's end or a fault the same answer comes again.
use Rattle.proof_loads.proofs.Common.{or_true, [], Answer, AnswersAreSettled, arith, ErrorReport, Ev, event, fault, IsSettled, List, MayFollow, no_call, one_call, Parsed, Pulls, PullsAll, Some, true, ◌++◌, ◌∷◌, ◌≡◌}

-- what an answer leaves of the parser
abbrev Leaves : Parsed → Answer ErrorReport → Type 0
Leaves q (event Ev.stream_end p) = q.ended ≡ true
Leaves q (event e p) = Unit {0}
Leaves q (fault f) = q.fault ≡ Some f

leaves : (p q : Parsed) (a : Answer ErrorReport) → Pulls p a q → Leaves q a
leaves p q a g = grind (arith, or_true)

may_follow : (q r : Parsed) (a b : Answer ErrorReport) → Leaves q a → Pulls q b r → MayFollow a b
may_follow q r a b l g = grind arith

-- of the last answer the parser is what that leaves
abbrev Last : Parsed → List (Answer ErrorReport) → Type 0
Last q [] = Unit {0}
Last q (a ∷ []) = Leaves q a
Last q (a ∷ b ∷ answers) = Last q (b ∷ answers)

one_more : (q r : Parsed) (answers : List (Answer ErrorReport)) (b : Answer ErrorReport) → Pulls q b r → IsSettled answers × Last q answers → IsSettled (answers ++ b ∷ []) × Last r (answers ++ b ∷ [])
one_more q r [] b g h = (tt, leaves q r b g)
one_more q r (a ∷ answers) b g h = grind (arith, leaves, may_follow, one_more q r answers b g)

ends : {p q : Parsed} {answers : List (Answer ErrorReport)} → PullsAll p answers q → IsSettled answers × Last q answers
ends no_call = (tt, tt)
ends (one_call {q = q} {r = r} {answers = answers} a calls gives) = one_more q r answers a gives (ends calls)

pub answers_settled : AnswersAreSettled
answers_settled p q answers calls = (ends calls).0
