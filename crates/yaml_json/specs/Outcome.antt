-- What an error says of the tree and of the writer.
use Rattle.std.specs.Prelude.{◌≡◌, ◌≢◌, ◌<◌, ◌⊎◌, ℕ, Option, Some, None, List, []}
use Rattle.defs_tree.specs.Tree.{Tree}
use Rattle.defs_layout.specs.Fault.{Fault, first_fault}
use Rattle.defs_layout.specs.HasJson.{nesting}
use Rattle.yaml_emitter.specs.Writing.{Stopped}
use Rattle.yaml_json.specs.Found.{fault_of}
use Rattle.yaml_json.specs.declared.error.JsonError.{JsonError}
use Rattle.yaml_json.specs.declared.error.JsonError.TheVariants.{NoJson, OutOfMemory, Refused}

-- There is such a node, and it lies below the root: its path has a step. A path of no step takes no memory.
abbrev pub IsBelowRoot : Option Fault → Type 0
IsBelowRoot None = ⊥
IsBelowRoot (Some f) = f.path ≢ []

-- the tree has more levels than a recursion goes down
abbrev pub IsDeep : Tree → Type 0
IsDeep t = 128 < nesting t

-- Where a node has no JSON text, it is named, or memory was refused and it lies below the root; the writer is as it was. Else memory was
-- refused for a deep tree, and the writer is as it was; or a beginning of the text was written, and the writer refused more of it, or the
-- reason holds.
abbrev pub Leaves : {W : Type 0} → (gives leaves calls_leave : W → List ℕ → W → Type 0) → (reason : Type 0) → Tree → (text : List ℕ) → W → W → JsonError → Type 0
Leaves gives leaves calls_leave reason t text w v (NoJson n) = (first_fault t ≡ Some (fault_of n)) × (v ≡ w)
Leaves gives leaves calls_leave reason t text w v OutOfMemory = (IsBelowRoot (first_fault t) ⊎ ((first_fault t ≡ None) × IsDeep t)) × (v ≡ w)
Leaves gives leaves calls_leave reason t text w v (Refused e) = (first_fault t ≡ None) × Stopped gives leaves reason w text v × calls_leave w text v
