-- How large trees are. YAML 1.2, section 3.2.1 (nodes).
use Rattle.std.specs.Prelude.{ℕ, ◌+◌, ◌≤◌, List, [], ◌∷◌}
use Rattle.defs_tree.specs.Tree.{Tree, real, string, array, hash, bad_value, Items, no_items, item, Pairs, no_pairs, pair}
use Rattle.yaml_loader.specs.Extents.{scalar_extent, single_node, extended}
use Rattle.yaml_loader.specs.declared.extent.Extent.{Extent}
use Rattle.yaml_loader.specs.declared.limits.Limits.{Limits}

-- a tree with all nodes in it: how many they are, with the bytes of their texts, and how deep they stand one in another
abbrev mutual
  pub tree_extent : Tree → Extent
  tree_extent (real text) = scalar_extent text
  tree_extent (string text) = scalar_extent text
  tree_extent (array items) = items_extent items
  tree_extent (hash pairs) = pairs_extent pairs
  tree_extent _ = single_node

  -- an array of these items
  pub items_extent : Items → Extent
  items_extent no_items = single_node
  items_extent (item t ts) = extended (items_extent ts) (tree_extent t)

  -- a hash of these pairs
  pub pairs_extent : Pairs → Extent
  pairs_extent no_pairs = single_node
  pairs_extent (pair k v ps) = extended (extended (pairs_extent ps) (tree_extent k)) (tree_extent v)

-- A document. One that is a bad value may be one without a node, and counts for nothing.
abbrev pub document_extent : Tree → Extent
document_extent bad_value = record { size = 0; levels = 0 }
document_extent t = tree_extent t

-- the size of all documents together
abbrev pub documents_size : List Tree → ℕ
documents_size [] = 0
documents_size (t ∷ ts) = (document_extent t).size + documents_size ts

-- No document has more levels.
abbrev pub AreNoDeeper : ℕ → List Tree → Type 0
AreNoDeeper levels [] = Unit {0}
AreNoDeeper levels (t ∷ ts) = ((document_extent t).levels ≤ levels) × AreNoDeeper levels ts

-- The documents of a text lie within limits.
pub record AreWithin (limits : Limits) (documents : List Tree) : Type 0 where
  pub size : documents_size documents ≤ limits.size
  pub levels : AreNoDeeper limits.levels documents
