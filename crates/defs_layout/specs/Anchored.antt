-- The anchors of a document, the last one first, each with its node's tree where the node has ended.
-- YAML 1.2, sections 3.2.2.2 and 7.1 (an alias means the last node before it with that anchor), 6.9.2 (anchors).
use Rattle.std.specs.Prelude.{ℕ, List, [], ◌∷◌, Bool, false, ◌&&◌, Option, Some, None, if◌then◌else◌, bytes_eq}
use Rattle.std.specs.List.{list_all}
use Rattle.std.specs.Char.{is_ascii_alphanumeric}
use Rattle.defs_tree.specs.Tree.{Tree}

-- an anchor whose node has not ended, or has ended as a tree
pub data Anchor : Type 0 where
  begun : (name : List ℕ) → Anchor
  ended : (name : List ℕ) → Tree → Anchor

-- the anchors when the innermost node that has begun ends as a tree
abbrev pub with_end : Tree → List Anchor → List Anchor
with_end t [] = []
with_end t (begun name ∷ a) = ended name t ∷ a
with_end t (ended name u ∷ a) = ended name u ∷ with_end t a

-- the tree of the last node that has this anchor, if it has ended
abbrev pub last_tree : (name : List ℕ) → List Anchor → Option Tree
last_tree name [] = None
last_tree name (begun n ∷ a) = if bytes_eq n name then None else last_tree name a
last_tree name (ended n t ∷ a) = if bytes_eq n name then Some t else last_tree name a

-- a name: one or more ASCII letters and digits
abbrev pub is_name : List ℕ → Bool
is_name [] = false
is_name (c ∷ name) = is_ascii_alphanumeric c && list_all is_ascii_alphanumeric name
