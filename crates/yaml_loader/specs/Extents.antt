-- How large nodes and tags are. YAML 1.2, sections 3.2.1 (nodes) and 6.8.2 (prefixes of tag handles).
use Rattle.std.specs.Prelude.{ℕ, ◌+◌, max, nat_eq, if◌then◌else◌, List, [], ◌∷◌, length}
use Rattle.std.specs.Str.{encode_utf8_all}
use Rattle.defs_event.specs.Event.{Tag}
use Rattle.yaml_loader.specs.declared.extent.Extent.{Extent}

-- a scalar with this content
abbrev pub scalar_extent : List ℕ → Extent
scalar_extent content = record { size = length (encode_utf8_all content) + 1; levels = 1 }

-- the bytes of a tag, in which the whole prefix stands in its handle's place
abbrev pub tag_size : Tag → ℕ
tag_size t = length (encode_utf8_all t.handle) + length (encode_utf8_all t.suffix)

-- a collection without nodes
abbrev pub single_node : Extent
single_node = record { size = 1; levels = 1 }

-- a collection with one node more
abbrev pub extended : Extent → Extent → Extent
extended c x = record { size = c.size + x.size; levels = max c.levels (x.levels + 1) }

-- The node with this anchor, of those that are complete. An alias inside the very node that it names stands for a single node.
abbrev pub extent_at : ℕ → List (ℕ × Extent) → Extent
extent_at n [] = single_node
extent_at n (a ∷ anchors) = if nat_eq n a.0 then a.1 else extent_at n anchors
