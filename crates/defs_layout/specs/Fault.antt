-- The first node of a tree that has no JSON text, in the order of the text: an array and a hash come before what stands in them.
use Rattle.std.specs.Prelude.{ℕ, ◌+◌, Bool, true, ◌&&◌, if◌then◌else◌, Option, Some, None, option_map, List, [], ◌∷◌}
use Rattle.defs_tree.specs.Path.{Step, index, key}
use Rattle.defs_tree.specs.Tree.{Tree, real, string, array, hash, alias, bad_value, Items, no_items, item, Pairs, no_pairs, pair}
use Rattle.defs_tree.specs.Typing.{is_string}
use Rattle.defs_layout.specs.JsonReal.{is_json_real}

-- why a node has none: it is an alias, or a bad value, or a real that is no number of JSON, or one of its keys is no string
pub data Reason : Type 0 where
  is_alias : Reason
  is_bad_value : Reason
  is_no_number : Reason
  has_other_key : Reason

-- the node, by the steps to it from the root, and why it has none
pub record Fault : Type 0 where
  pub path : List Step
  pub reason : Reason

-- the node itself
abbrev pub here : Reason → Option Fault
here r = Some (record { path = []; reason = r })

-- the same node, seen from a step further up
abbrev pub below : Step → Option Fault → Option Fault
below s o = option_map (λ f. record { path = s ∷ f.path; reason = f.reason }) o

-- the first, if there is one
abbrev pub first_of : Option Fault → Option Fault → Option Fault
first_of None q = q
first_of (Some f) q = Some f

-- each key is a string
abbrev pub are_strings : Pairs → Bool
are_strings no_pairs = true
are_strings (pair k v ps) = is_string k && are_strings ps

-- the step to the value of a key
abbrev pub step_of : Tree → Step
step_of (string s) = key s
step_of _ = key []

abbrev mutual
  -- in a tree
  pub first_fault : Tree → Option Fault
  first_fault (real s) = if is_json_real s then None else here is_no_number
  first_fault (array ts) = first_item_fault 0 ts
  first_fault (hash ps) = if are_strings ps then first_member_fault ps else here has_other_key
  first_fault (alias n) = here is_alias
  first_fault bad_value = here is_bad_value
  first_fault _ = None

  -- in items, the first of which stands at this place
  pub first_item_fault : ℕ → Items → Option Fault
  first_item_fault n no_items = None
  first_item_fault n (item t ts) = first_of (below (index n) (first_fault t)) (first_item_fault (n + 1) ts)

  -- in the values of pairs
  pub first_member_fault : Pairs → Option Fault
  first_member_fault no_pairs = None
  first_member_fault (pair k v ps) = first_of (below (step_of k) (first_fault v)) (first_member_fault ps)
