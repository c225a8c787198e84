-- What an error says of the node that was asked for.
use Rattle.std.specs.Prelude.{◌≡◌, ◌≢◌, ◌⊎◌, ℕ, List, [], ◌∷◌, ◌++◌, Option, Some, None, option_map, length}
use Rattle.defs_tree.specs.Path as tree_path
use Rattle.defs_tree.specs.Tree.{Tree}
use Rattle.yaml_paths.specs.Kinds.{kind_of}
use Rattle.yaml_paths.specs.NoNode.{fault_at}
use Rattle.yaml_paths.specs.Path.{steps_of, node_at}
use Rattle.yaml_paths.specs.declared.error.ReadError.{ReadError}
use Rattle.yaml_paths.specs.declared.error.Reason.{Reason}
use Rattle.yaml_paths.specs.declared.error.Reason.TheVariants.{Missing, Other, OutOfMemory}
use Rattle.yaml_paths.specs.declared.kind.Kind.{Kind}
use Rattle.yaml_paths.specs.declared.kind.Kind.TheVariants as kind
use Rattle.yaml_tree.specs.View.{array_tree}

-- The path leads to no node, for this reason, and the error has the path of what it is about.
abbrev pub LeadsNowhere : List tree_path.Step → Tree → ReadError → Reason → Type 0
LeadsNowhere path t e why = fault_at path t ≡ Some (steps_of e.path.now, why)

-- There is a node at the end of the path, of another kind than was wanted.
abbrev pub EndsAtOther : Kind → List tree_path.Step → Tree → ReadError → Kind → Kind → Type 0
EndsAtOther wanted path t e w found = (steps_of e.path.now ≡ path) × (w ≡ wanted) × (option_map kind_of (node_at path t) ≡ Some found) × (found ≢ wanted)

-- A node is missing; or one on the way is of another kind than its step wants, or the one at the end than was wanted.
abbrev pub ExplainsAs : Kind → List tree_path.Step → Tree → ReadError → Reason → Type 0
ExplainsAs wanted path t e Missing = LeadsNowhere path t e Missing
ExplainsAs wanted path t e (Other w found) = LeadsNowhere path t e (Other w found) ⊎ EndsAtOther wanted path t e w found
ExplainsAs wanted path t e OutOfMemory = ⊥

abbrev pub Explains : Kind → List tree_path.Step → Tree → ReadError → Type 0
Explains wanted path t e = (e.item ≡ None) × ExplainsAs wanted path t e e.reason

-- the same, where a node that is missing is no error
abbrev pub ExplainsOther : Kind → List tree_path.Step → Tree → ReadError → Type 0
ExplainsOther wanted path t e = Explains wanted path t e × (e.reason ≢ Missing)

-- all are of this kind
abbrev pub AreOf : Kind → List Tree → Type 0
AreOf k [] = Unit {0}
AreOf k (t ∷ ts) = (kind_of t ≡ k) × AreOf k ts

-- The item at this place is the first of another kind than was wanted.
pub record IsOtherItem (wanted : Kind) (ts : List Tree) (place : ℕ) (found : Kind) : Type 0 where
  pub before : List Tree
  pub item : Tree
  pub after : List Tree
  pub whole : ts ≡ before ++ item ∷ after
  pub at : place ≡ length before
  pub wanted_before : AreOf wanted before
  pub is : found ≡ kind_of item
  pub other : found ≢ wanted

-- The first of them is of this kind. So there is one, and memory is asked for its value.
abbrev pub IsFirstOf : Kind → List Tree → Type 0
IsFirstOf k [] = ⊥
IsFirstOf k (t ∷ ts) = kind_of t ≡ k

-- of items: one of them is of another kind, or memory was refused for their values
abbrev pub ExplainsItemAs : Kind → List tree_path.Step → List Tree → ReadError → Option ℕ → Reason → Type 0
ExplainsItemAs wanted path ts e (Some i) (Other w found) = (steps_of e.path.now ≡ path) × (w ≡ wanted) × IsOtherItem wanted ts i found
ExplainsItemAs wanted path ts e None OutOfMemory = (steps_of e.path.now ≡ path) × IsFirstOf wanted ts
ExplainsItemAs wanted path ts e _ _ = ⊥

abbrev pub ExplainsItem : Kind → List tree_path.Step → List Tree → ReadError → Type 0
ExplainsItem wanted path ts e = ExplainsItemAs wanted path ts e e.item e.reason

-- There is no array at the end of the path, or there is one, of which this holds.
abbrev pub ExplainsList : Kind → List tree_path.Step → Tree → ReadError → Type 0
ExplainsList wanted path t e = Explains kind.Array path t e ⊎ ((ts : List Tree) × (node_at path t ≡ Some (array_tree ts)) × ExplainsItem wanted path ts e)
