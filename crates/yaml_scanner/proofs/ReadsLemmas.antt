-- What was read between two windows.
use Rattle.yaml_scanner.proofs.Common.{arith, List, Reads, refl, WindowView, ℕ, ◌≡◌}

pub Reads-map : {T : Type 0} {P R : List ℕ → List ℕ → Type 0} (old new : WindowView T) → Reads old new P → ((a b : List ℕ) → P a b → R a b) → Reads old new R
Reads-map old new run f = record { start = run.start; at = run.at; left = run.left; back = run.back; reads = λ w p. f _ _ (run.reads w p) }

-- between readings that are equal to these
pub Reads-along : {T : Type 0} {P : List ℕ → List ℕ → Type 0} (old new x y : WindowView T) → x ≡ old → y ≡ new → Reads old new P → Reads x y P
Reads-along old new x y e f run = rw (e, f) run

-- nothing was read
pub Reads-none : {T : Type 0} (s : WindowView T) → Reads s s (λ a b. b ≡ a)
Reads-none s = record { start = refl; at = omega arith; left = omega arith; back = λ w p. p; reads = λ w p. refl }
