-- The search for the first node that has no JSON text.
use Rattle.std.specs.Prelude.{◌≡◌, ◌≢◌, ℕ, ◌+◌, ◌-◌, ◌≤◌, max, Bool, true, false, if◌then◌else◌, Option, Some, None, List, [], ◌∷◌, get_or}
use Rattle.defs_tree.specs.Box.{is_block}
use Rattle.defs_tree.specs.Tree.{Tree, array, hash, null}
use Rattle.defs_tree.specs.Path.{Step, index}
use Rattle.defs_layout.specs.Fault.{Fault, here, below, first_of, step_of, first_fault, first_item_fault, first_member_fault}
use Rattle.defs_layout.specs.HasJson.{nesting}
use Rattle.yaml_json.specs.Found.{fault_of, reason_view}
use Rattle.yaml_json.specs.Left.{part_nesting}
use Rattle.yaml_json.specs.Level.{tree_left, part_nodes}
use Rattle.yaml_json.specs.declared.error.JsonError.{JsonError}
use Rattle.yaml_json.specs.declared.error.JsonError.TheVariants.{NoJson, OutOfMemory, Refused}
use Rattle.yaml_json.specs.declared.error.Reason.{Reason}
use Rattle.yaml_json.specs.declared.find.Looked.{Looked}
use Rattle.yaml_json.specs.declared.find.Looked.TheVariants.{Plain, Deep, Faulty}
use Rattle.yaml_json.specs.declared.level.Level.{Level}
use Rattle.yaml_tree.specs.View.{items_view}
use Rattle.yaml_tree.specs.Weight.{nodes}
use Rattle.yaml_tree.specs.declared.yaml.Yaml.{Yaml}

-- ---- one node

-- the first fault in the parts, where so many nodes stand before them
abbrev pub fault_left : (passed : ℕ) → Tree → Option Fault
fault_left passed (array ts) = first_item_fault passed ts
fault_left passed (hash ps) = first_member_fault ps
fault_left passed t = None

-- What a look at a node alone says: it has a text and no parts; or parts, and no fault but theirs; or it is faulty itself.
abbrev pub IsSeen : Tree → Looked → Type 0
IsSeen t Plain = (first_fault t ≡ None) × (is_block t ≡ false)
IsSeen t Deep = (first_fault t ≡ fault_left 0 t) × (is_block t ≡ true)
IsSeen t (Faulty r) = first_fault t ≡ here (reason_view r)

-- a node that is faulty for the reason, or has parts
abbrev pub IsMet : Tree → Option Reason → Type 0
IsMet t None = (first_fault t ≡ fault_left 0 t) × (is_block t ≡ true)
IsMet t (Some r) = first_fault t ≡ here (reason_view r)

-- ---- levels

-- the step to the last part that was passed
abbrev pub step_in : (is_hash : Bool) → (row : List Yaml) → (passed : ℕ) → Step
step_in is_hash row passed = if is_hash then step_of (get_or (items_view row) (passed - 2) null) else index (passed - 1)

abbrev pub last_step : Level → Step
last_step l = step_in l.is_hash l.row.now l.passed

-- the first fault of the outermost level, where the last part that was passed in the innermost has this one
abbrev pub fault_in : List Level → Option Fault → Option Fault
fault_in [] o = o
fault_in (l ∷ ls) o = fault_in ls (first_of (below (last_step l) o) (fault_left l.passed (tree_left l)))

-- From what is left of a level, nodes without a fault and without parts were passed, and then a node that was met. The step leads to it.
pub record Meets (t : Tree) (passed : ℕ) (s : Step) (met : Tree) (u : Tree) (more : ℕ) : Type 0 where
  pub fault : fault_left passed t ≡ first_of (below s (first_fault met)) (fault_left more u)
  pub no_deeper : part_nesting t ≤ max 1 (max (nesting met) (part_nesting u))
  pub no_higher : max (nesting met) (part_nesting u) ≤ part_nesting t
  pub fewer : nodes met + part_nodes u ≤ part_nodes t

-- all nodes that are left are without a fault and without parts
abbrev pub ArePlain : (passed : ℕ) → Tree → Type 0
ArePlain passed t = (fault_left passed t ≡ None) × (part_nesting t ≤ 1)

-- ---- the error

-- no node is faulty, or the first that is lies below the root
abbrev pub IsSoundAtRoot : Option Fault → Type 0
IsSoundAtRoot None = Unit {0}
IsSoundAtRoot (Some f) = f.path ≢ []

-- The error names this fault, or says that memory was refused on the way.
abbrev pub Names : Option Fault → JsonError → Type 0
Names o (NoJson n) = o ≡ Some (fault_of n)
Names o OutOfMemory = IsSoundAtRoot o
Names o (Refused e) = ⊥
