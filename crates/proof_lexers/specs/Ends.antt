-- How the scan of a text ends.
use Rattle.std.specs.Prelude.{◌≡◌, Result, Ok, Err}
use Rattle.yaml_tokens.specs.declared.problem.Fault.{Fault}

-- How a scan ends: it read what stands there as what it is; or it has a fault of which the text is the reason.
pub data EndsAs {A : Type 0} (Reads : A → Type 0) (Refuses : Fault → Type 0) (x : Result A Fault) : Type 0 where
  reads : (r : A) → Reads r → x ≡ Ok r → EndsAs Reads Refuses x
  refuses : (f : Fault) → Refuses f → x ≡ Err f → EndsAs Reads Refuses x
