-- What calls give, if they give anything.
use Rattle.std.proofs.Common.{arith, Bool, false, sym, true, ◌∙◌, ◌≡◌}
use Rattle.std.specs.Prelude.{Err, IfOk, is_err, Ok, OnOk, Result}

pub ok_of : {A E : Type 0} (P Q : A → Type 0) (r : Result A E) → ((x : A) → P x → Q x) → IfOk r P → IfOk r Q
ok_of P Q a f h = grind arith

-- a result that is no `Err`
pub was_ok : {A E : Type 0} (P : Type 0) (r : Result A E) (b : Bool) → b ≡ is_err r → b ≡ false → OnOk r P → P
was_ok P (Ok x) b is e h = h
was_ok P (Err x) b is e h = let both : true ≡ false = sym is ∙ e in cc
