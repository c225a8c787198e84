-- What a program says of a failure by its status.
use Rattle.std.specs.Prelude.{◌≡◌, ◌≢◌, ℕ, IsNone, IsErr, Result, Ok, Err}
use Rattle.std.specs.IoError.{error_kind}
use Rattle.std.specs.declared.io.Error.{Error}
use Rattle.std.specs.declared.io.ErrorKind.{ErrorKind}
use Rattle.std.specs.declared.io.ErrorKind.TheVariants as kinds
use Rattle.yaml_programs.specs.declared.failure.Failure.{Failure}
use Rattle.yaml_programs.specs.declared.failure.Failure.TheVariants as failure

-- a closed pipe, and only that, is told by no word
abbrev pub IsOfOutput : {T : Type 0} → Failure T → ErrorKind → Type 0
IsOfOutput failure.ClosedPipe kind = kind ≡ kinds.BrokenPipe
IsOfOutput failure.CannotWrite kind = kind ≢ kinds.BrokenPipe
IsOfOutput _ kind = ⊥

abbrev pub IsUsage : {T : Type 0} → Failure T → Type 0
IsUsage failure.Usage = Unit {0}
IsUsage _ = ⊥

abbrev pub IsOfMemory : {T : Type 0} → Failure T → Type 0
IsOfMemory failure.OutOfMemory = Unit {0}
IsOfMemory _ = ⊥

abbrev pub IsOfInput : {T : Type 0} → Failure T → ErrorKind → Type 0
IsOfInput failure.OutOfMemory kind = kind ≡ kinds.OutOfMemory
IsOfInput (failure.CannotRead path reason) kind = kind ≢ kinds.OutOfMemory
IsOfInput _ kind = ⊥

-- of a file that cannot be read no reason is told
abbrev pub IsUntold : {T : Type 0} → Failure T → Type 0
IsUntold (failure.CannotRead path reason) = IsNone reason
IsUntold _ = Unit {0}

-- why a program cannot begin: arguments that are not UTF-8 give the usage, and anything else is refused memory
abbrev pub IsNotBegun : {A O T : Type 0} → Result A Error → Result O Error → Failure T → Type 0
IsNotBegun (Ok args) out f = IsErr out × IsOfMemory f
IsNotBegun (Err e) out f = (error_kind e ≡ kinds.InvalidData → IsUsage f) × (error_kind e ≢ kinds.InvalidData → IsOfMemory f)

-- 2 if the arguments are not taken, else 1
abbrev pub status_of : {T : Type 0} → Failure T → ℕ
status_of failure.Usage = 2
status_of (failure.Refused word why) = 2
status_of _ = 1
