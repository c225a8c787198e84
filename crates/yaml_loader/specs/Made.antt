-- What a load makes of events: how many nodes, and how deep they stand one in another. An alias makes a copy of its node, with all nodes
-- in it. A node with an anchor is made twice: where it stands, and as the copy that is kept for its aliases. A tag is made once, where its
-- node stands: its event has it, with a copy of the whole prefix, and trees have none.
-- YAML 1.2, sections 3.1 (construction), 6.8.2 (prefixes of tag handles), 6.9.1 (tags), 6.9.2 (anchors) and 7.1 (aliases).
use Rattle.std.specs.Prelude.{ℕ, zero, suc, ◌+◌, ◌≤◌, max, List, [], ◌∷◌, length, Option, Some, None}
use Rattle.defs_text.specs.Position.{Position}
use Rattle.defs_event.specs.Event.{Ev, Tag}
use Rattle.yaml_loader.specs.Extents.{scalar_extent, single_node, tag_size, extended, extent_at}
use Rattle.yaml_loader.specs.declared.count.Opened.{Opened}
use Rattle.yaml_loader.specs.declared.extent.Extent.{Extent}
use Rattle.yaml_loader.specs.declared.limits.Limits.{Limits}

pub record Made : Type 0 where
  -- of all nodes together: how many there are, and the bytes of their content and their tags
  pub size : ℕ
  -- of the deepest
  pub levels : ℕ
  -- the open collections, each with its anchor, the innermost first
  pub opened : List Opened
  -- the complete nodes that have an anchor, by its number
  pub anchors : List (ℕ × Extent)

abbrev pub nothing_made : Made
nothing_made = record { size = 0; levels = 0; opened = []; anchors = [] }

-- a node in the innermost collection
abbrev pub with_part : Extent → List Opened → List Opened
with_part x [] = []
with_part x (c ∷ outer) = record { anchor = c.anchor; extent = extended c.extent x } ∷ outer

-- a node's tag, if it has one
abbrev pub with_tag : Option Tag → Made → Made
with_tag None m = m
with_tag (Some t) m = record { size = m.size + tag_size t; levels = m.levels; opened = m.opened; anchors = m.anchors }

-- A node, or the copy of one, where it stands.
abbrev pub with_node : Extent → Made → Made
with_node x m = record { size = m.size + x.size; levels = max m.levels (length m.opened + x.levels); opened = with_part x m.opened; anchors = m.anchors }

-- A complete node with this anchor is kept; the number 0 is no anchor.
abbrev pub with_kept : ℕ → Extent → Made → Made
with_kept zero x m = m
with_kept (suc n) x m = record { size = m.size + x.size; levels = m.levels; opened = m.opened; anchors = (suc n, x) ∷ m.anchors }

-- A collection begins.
abbrev pub with_start : ℕ → Made → Made
with_start a m = record { size = m.size + 1; levels = max m.levels (length m.opened + 1); opened = record { anchor = a; extent = single_node } ∷ m.opened; anchors = m.anchors }

-- The innermost collection ends.
abbrev pub with_end : List Opened → Made → Made
with_end [] m = m
with_end (c ∷ outer) m = with_kept c.anchor c.extent (record { size = m.size; levels = m.levels; opened = with_part c.extent outer; anchors = m.anchors })

-- after one more event
abbrev pub made_by : Made → Ev → Made
made_by m (Ev.alias n) = with_node (extent_at n m.anchors) m
made_by m (Ev.scalar content style a tag) = with_kept a (scalar_extent content) (with_node (scalar_extent content) (with_tag tag m))
made_by m (Ev.sequence_start a tag) = with_start a (with_tag tag m)
made_by m Ev.sequence_end = with_end m.opened m
made_by m (Ev.mapping_start a tag) = with_start a (with_tag tag m)
made_by m Ev.mapping_end = with_end m.opened m
made_by m _ = m

abbrev pub made_from : Made → List (Ev × Position) → Made
made_from m [] = m
made_from m (e ∷ es) = made_from (made_by m e.0) es

-- what a load makes of these events
abbrev pub made : List (Ev × Position) → Made
made es = made_from nothing_made es

-- It is not too large, and not too deep.
pub record IsWithin (limits : Limits) (m : Made) : Type 0 where
  pub size : m.size ≤ limits.size
  pub levels : m.levels ≤ limits.levels
