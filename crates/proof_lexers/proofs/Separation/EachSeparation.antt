-- Each separation is passed whole.
use Rattle.proof_lexers.proofs.Common.{begins_separation, EachSeparationIsPassed, false, has_no_nul, is_blank_or_end, List, true, ℕ, ◌++◌, ◌≡◌, arith}
use Rattle.proof_lexers.proofs.Ends.{ends_also}
use Rattle.proof_lexers.proofs.Separation.Separations.{separations_are_passed}
use Rattle.proof_row.specs.Ends.{ends_separation}
pub use Rattle.proof_row.proofs.Texts.{no_nul_after}
use Rattle.proof_row.proofs.Separations.{separations}

ends_here : (r : List ℕ) → has_no_nul r ≡ true → begins_separation r ≡ false → ends_separation r ≡ true
unfolding is_blank_or_end
ends_here r h e = grind arith

pub each_separation_is_passed : EachSeparationIsPassed
each_separation_is_passed s separation rest nul is ends =
    ends_also (λ u passed. grind (arith, ends_here, no_nul_after, separations)) (λ f why. why) (separations_are_passed s (separation ++ rest))
