-- A refusal for a fault that stands in a text by itself comes only where that fault stands.
use Rattle.proof_scanner.proofs.Common.{At, Fault, has_no_nul, is_shown, IsRefused, IsThere, List, OutOfMemory, true, ℕ, ◌≡◌, nat_tests, eqb-true, arith}
use Rattle.proof_scanner.proofs.Refusals.Common.{kind}
use Rattle.proof_scanner.proofs.Refusals.Refusals.{refusal_told}

-- A text is refused for such a fault only where it stands in it.
pub faults_stand : (text : List ℕ) (f : Fault) → has_no_nul text ≡ true → IsRefused text f → is_shown f ≡ true → IsThere text f
faults_stand text OutOfMemory nul r shown = absurd (cc shown)
faults_stand text (At why at) nul r shown = (refusal_told text (At why at) nul r (kind (grind (arith, nat_tests, eqb-true)))).stands shown
