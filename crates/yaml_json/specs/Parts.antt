-- How the parts of a level are written.
use Rattle.std.specs.Prelude.{◌≡◌, ℕ, ◌+◌, ◌≤◌, max, Bool, true, false, Option, List, ◌++◌}
use Rattle.defs_tree.specs.Box.{is_block}
use Rattle.defs_tree.specs.Tree.{Tree}
use Rattle.defs_layout.specs.HasJson.{nesting}
use Rattle.defs_layout.specs.JsonText.{json_text}
use Rattle.yaml_emitter.specs.Writing.{Wrote, IsLeft}
use Rattle.yaml_json.specs.Given.{IsGiven, ArePartsGiven}
use Rattle.yaml_json.specs.Left.{parts_left, part_nesting, closing}
use Rattle.yaml_json.specs.Level.{part_nodes}
use Rattle.yaml_tree.specs.Weight.{nodes}

-- Of the parts that were left, some were written, and what stands before the next one. That has parts itself.
pub record Stops {W : Type 0} (gives : W → List ℕ → W → Type 0) (indentation : Option ℕ) (margin : ℕ) (w : W) (is_first : Bool) (t : Tree) (v : W) (inner : Tree) (u : Tree) : Type 0 where
  pub left : IsLeft gives w (parts_left is_first indentation margin t) v (json_text indentation margin inner ++ parts_left false indentation margin u)
  pub has_parts : is_block inner ≡ true
  pub no_higher : max (nesting inner) (part_nesting u) ≤ part_nesting t
  pub fewer : nodes inner + part_nodes u ≤ part_nodes t
  pub given : IsGiven inner → ArePartsGiven u → ArePartsGiven t
  pub same : closing u ≡ closing t

-- all were written
pub record Ends {W : Type 0} (gives : W → List ℕ → W → Type 0) (indentation : Option ℕ) (margin : ℕ) (w : W) (is_first : Bool) (t : Tree) (v : W) : Type 0 where
  pub wrote : Wrote gives w (parts_left is_first indentation margin t) v
  pub given : ArePartsGiven t
