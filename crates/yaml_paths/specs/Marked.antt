-- Paths through trees with positions.
use Rattle.std.specs.Prelude.{◌≡◌, ℕ, List, [], ◌∷◌, Option, Some, None, option_and_then}
use Rattle.std.specs.Option.{option_map_or}
use Rattle.defs_tree.specs.Path as tree_path
use Rattle.defs_tree.specs.Path.{index, key}
use Rattle.defs_event.specs.Marks.{Marks, own_position, node_at_place, node_at_text}
use Rattle.defs_text.specs.Position.{Position}
use Rattle.defs_tree.specs.Tree.{Tree}
use Rattle.yaml_paths.specs.declared.error.ReadError.{ReadError}

-- the node at the end of a step
abbrev pub marked_step_from : tree_path.Step → Tree × Marks → Option (Tree × Marks)
marked_step_from (index i) n = node_at_place i n.0 n.1
marked_step_from (key s) n = node_at_text s n.0 n.1

-- at the end of a path
abbrev pub marked_at : List tree_path.Step → Tree × Marks → Option (Tree × Marks)
marked_at [] n = Some n
marked_at (s ∷ ss) n = option_and_then (marked_at ss) (marked_step_from s n)

-- the last node along a path
abbrev pub deepest : List tree_path.Step → Tree × Marks → Tree × Marks
deepest [] n = n
deepest (s ∷ ss) n = option_map_or (deepest ss) (marked_step_from s n) n

-- the steps to an item
abbrev pub item_steps : Option ℕ → List tree_path.Step
item_steps None = []
item_steps (Some i) = index i ∷ []

-- where the last node along a path begins, or the item in it
abbrev pub position_of : Option ℕ → List tree_path.Step → Tree × Marks → Position
position_of item path n = own_position (deepest (item_steps item) (deepest path n)).1

-- The error has that position.
abbrev pub IsAt : List tree_path.Step → Tree × Marks → ReadError → Type 0
IsAt path n e = e.position ≡ Some (position_of e.item path n)
