-- What a program's status says of its arguments and its files.
use Rattle.std.specs.Prelude.{◌≡◌, ℕ, Bool, true, List, [], ◌∷◌}
use Rattle.std.specs.List.{All}
use Rattle.yaml_programs.specs.declared.words.Stop.{Stop}
use Rattle.yaml_programs.specs.declared.words.Stop.TheVariants as stop
use Rattle.yaml_programs.specs.Arguments.{Text, Setting, helps, tells_version, refuses, Asked, reads, stops}

-- the program q is p with these options, in their order; `sets` says what an option makes of a program, and whether it is taken
abbrev pub IsSetTo : {P : Type 0} → (sets : P → Text → Text → Bool → P → Type 0) → (p : P) → List Setting → (q : P) → Type 0
IsSetTo sets p [] q = p ≡ q
IsSetTo {P} sets p ((name, value) ∷ more) q = (r : P) × sets p name value true r × IsSetTo sets r more q

-- the program did its work on bytes of this file
abbrev pub IsDoneWith : {P : Type 0} → (works : P → Text → List ℕ → Type 0) → (p : P) → (path : Text) → Type 0
IsDoneWith works p path = (bytes : List ℕ) × works p path bytes

-- the program did its work on each of these files, with these options
abbrev pub AreDone : {P : Type 0} → (sets : P → Text → Text → Bool → P → Type 0) → (works : P → Text → List ℕ → Type 0) → (usual : P)
    → List Setting → (files : List Text) → Type 0
AreDone {P} sets works usual settings files = (p : P) × IsSetTo sets usual settings p × All (IsDoneWith works p) files

-- what status 0 says: all was done that the arguments ask for
abbrev pub IsDone : {P : Type 0} → (sets : P → Text → Text → Bool → P → Type 0) → (works : P → Text → List ℕ → Type 0) → (usual : P)
    → Asked → Type 0
IsDone sets works usual (reads settings files) = AreDone sets works usual settings files
IsDone sets works usual (stops helps) = Unit {0}
IsDone sets works usual (stops tells_version) = Unit {0}
IsDone sets works usual (stops (refuses word why)) = ⊥

-- what is told without a file
abbrev pub IsTold : Stop → Type 0
IsTold stop.Help = Unit {0}
IsTold stop.Version = Unit {0}
IsTold _ = ⊥
