-- The limits that options ask for.
use Rattle.std.specs.Prelude.{[], ◌∷◌, ◌≡◌, ℕ, ◌-◌, ◌^◌, Bool, true, false, if◌then◌else◌, Option, Some, None, List, MatchResult, Result, codes}
use Rattle.std.specs.Bool.{MatchBool}
use Rattle.std.specs.Str.{bytes_eq}
use Rattle.std.specs.Str.Parse.{ParsesUnsigned}
use Rattle.std.specs.declared.num.ParseIntError.{ParseIntError}
use Rattle.yaml_programs.specs.Arguments.{Row}
use Rattle.yaml_programs.specs.declared.bounds.Bounds.{Bounds}

-- the options
abbrev pub limit_options : List Row
limit_options = (codes "--max-levels", codes "N") ∷ (codes "--max-size", codes "N") ∷ (codes "--no-limits", []) ∷ []

-- the limits with a number for an option
abbrev pub with_number : Bounds → (name : List ℕ) → ℕ → Bounds
with_number b name n = if bytes_eq name (codes "--max-levels") then record b { levels = Some n } else record b { size = Some n }

-- what an option other than `--no-limits` makes of limits: it takes a number of 64 bits in decimal digits, and no other text
abbrev pub IsNumberSet : (old : Bounds) → (name value : List ℕ) → (is_taken : Bool) → (new : Bounds) → Type 0
IsNumberSet old name value is_taken new =
    (number : Result ℕ ParseIntError) × ParsesUnsigned 64 10 value number
    × MatchResult number (λ n. (is_taken ≡ true) × (new ≡ with_number old name n)) (λ _. is_taken ≡ false)

-- what an option makes of limits
abbrev pub IsBoundSet : (old : Bounds) → (name value : List ℕ) → (is_taken : Bool) → (new : Bounds) → Type 0
IsBoundSet old name value is_taken new =
    MatchBool (bytes_eq name (codes "--no-limits")) ((is_taken ≡ true) × (new ≡ record old { are_lifted = true })) (IsNumberSet old name value is_taken new)

-- a limit: the number that was given, else none where the limits are lifted, else the usual one
abbrev pub bound : Option ℕ → (are_lifted : Bool) → (usual : ℕ) → ℕ
bound (Some given) are_lifted usual = given
bound None true usual = 2 ^ 64 - 1
bound None false usual = usual
