-- Paths that lead to no node.
use Rattle.std.proofs.Common.{◌≡◌, ◌≢◌, List, [], ◌∷◌, Option, Some, None, refl, subst, inl, ◌∙◌}
use Rattle.std.specs.Prelude.{IfSome, option_and_then, option_map, is_some, is_none}
use Rattle.defs_tree.specs.Path as tree_path
use Rattle.defs_tree.specs.Path.{index, key}
use Rattle.defs_tree.specs.Tree.{Tree}
use Rattle.yaml_paths.specs.Explained.{Explains, ExplainsAs, LeadsNowhere}
use Rattle.yaml_paths.specs.Kinds.{kind_of}
use Rattle.yaml_paths.specs.Laws.{EachLeadsToANodeOrHasAFault}
use Rattle.yaml_paths.specs.NoNode.{reason_at, fault_after, fault_at}
use Rattle.yaml_paths.specs.Path.{node_at, step_from, steps_of}
use Rattle.yaml_paths.specs.declared.error.ReadError.{ReadError}
use Rattle.yaml_paths.specs.declared.error.Reason.{Reason}
use Rattle.yaml_paths.specs.declared.error.Reason.TheVariants.{Missing, Other, OutOfMemory}
use Rattle.yaml_paths.specs.declared.kind.Kind.{Kind}
use Rattle.yaml_paths.specs.declared.kind.Kind.TheVariants.{Array, Hash, Null}

-- why a path leads to no node, if it leads to none
abbrev Found : Type 0
Found = Option (List tree_path.Step × Reason)

-- the same of a path that is longer by a step before it
abbrev longer : tree_path.Step → Found → Found
longer s o = option_map (λ f. (s ∷ f.0, f.1)) o

-- not that memory was refused
abbrev AsksForNone : Found → Type 0
AsksForNone o = IfSome o (λ f. f.1 ≢ OutOfMemory)

step_asks_for_none : (s : tree_path.Step) (k : Kind) → reason_at s k ≢ OutOfMemory
step_asks_for_none (key s) Null = λ e. cc
step_asks_for_none (key s) Hash = λ e. cc
step_asks_for_none (key s) k = λ e. cc
step_asks_for_none (index i) Null = λ e. cc
step_asks_for_none (index i) Array = λ e. cc
step_asks_for_none (index i) k = λ e. cc

longer_asks_for_none : (s : tree_path.Step) (o : Found) → AsksForNone o → AsksForNone (longer s o)
longer_asks_for_none s None h = tt
longer_asks_for_none s (Some f) h = h

after_asks_for_none : (s : tree_path.Step) (t : Tree) (further : Tree → Found) (o : Option Tree) → ((u : Tree) → AsksForNone (further u)) → AsksForNone (fault_after s t further o)
after_asks_for_none s t further None h = step_asks_for_none s (kind_of t)
after_asks_for_none s t further (Some u) h = longer_asks_for_none s (further u) (h u)

path_asks_for_none : (path : List tree_path.Step) (t : Tree) → AsksForNone (fault_at path t)
path_asks_for_none [] t = tt
path_asks_for_none (s ∷ ss) t = after_asks_for_none s t (fault_at ss) (step_from s t) (λ u. path_asks_for_none ss u)

explained : (wanted : Kind) (path : List tree_path.Step) (t : Tree) (e : ReadError) (why : Reason) → LeadsNowhere path t e why → ExplainsAs wanted path t e why
explained wanted path t e Missing h = h
explained wanted path t e (Other w found) h = inl h
explained wanted path t e OutOfMemory h = absurd (subst AsksForNone h (path_asks_for_none path t) refl)

-- an error that says why a path leads to no node
pub leads_nowhere : (wanted : Kind) (path : List tree_path.Step) (t : Tree) (e : ReadError) → e.item ≡ None → LeadsNowhere path t e e.reason → Explains wanted path t e
leads_nowhere wanted path t e no_item h = (no_item, explained wanted path t e e.reason h)

longer_is_some : (s : tree_path.Step) (o : Found) → is_some (longer s o) ≡ is_some o
longer_is_some s None = refl
longer_is_some s (Some f) = refl

after_is_some : (s : tree_path.Step) (t : Tree) (further : Tree → Found) (node : Tree → Option Tree) (o : Option Tree) → ((u : Tree) → is_some (further u) ≡ is_none (node u))
    → is_some (fault_after s t further o) ≡ is_none (option_and_then node o)
after_is_some s t further node None h = refl
after_is_some s t further node (Some u) h = longer_is_some s (further u) ∙ h u

pub each_leads_to_a_node_or_has_a_fault : EachLeadsToANodeOrHasAFault
each_leads_to_a_node_or_has_a_fault [] t = refl
each_leads_to_a_node_or_has_a_fault (s ∷ ss) t = after_is_some s t (fault_at ss) (node_at ss) (step_from s t) (λ u. each_leads_to_a_node_or_has_a_fault ss u)
