-- A test has one of two answers.
use Rattle.proof_loads.proofs.Common.{Bool, false, refl, true, ◌≡◌}

pub by_test : {G : Type 0} (b : Bool) → (b ≡ true → G) → (b ≡ false → G) → G
by_test true f g = f refl
by_test false f g = g refl
