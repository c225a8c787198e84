-- Arrays of one item each, one within the other.
use Rattle.std.specs.Prelude.{ℕ, ◌≡◌, ◌≤◌, zero, suc, Option, List, [], ◌++◌, codes}
use Rattle.defs_tree.specs.Tree.{Tree, array, no_items, item}
use Rattle.defs_layout.specs.HasJson.{nesting}
use Rattle.defs_layout.specs.JsonText.{new_line, json_text}
use Rattle.yaml_emitter.specs.Writing.{IsLeft}
use Rattle.yaml_json.specs.Given.{IsGiven}
use Rattle.yaml_json.specs.Left.{IsTooWide, shallower}
use Rattle.yaml_tree.specs.Depth.{depth}

-- the second tree is an array, and the first its only item
abbrev pub IsOnlyItem : Tree → Tree → Type 0
IsOnlyItem t s = s ≡ array (item t no_items)

-- the ends of so many arrays, where what stands in the innermost one has this margin
abbrev pub nest_end : (indentation : Option ℕ) → (margin levels : ℕ) → List ℕ
nest_end indentation margin zero = []
nest_end indentation margin (suc n) = new_line indentation (shallower indentation margin) ++ (codes "]" ++ nest_end indentation (shallower indentation margin) n)

-- The beginnings of so many arrays were written, from the margin to the inner one. What is left is the text of the inner tree and the ends.
pub record Opens {W : Type 0} (gives : W → List ℕ → W → Type 0) (indentation : Option ℕ) (margin : ℕ) (w : W) (outer : Tree) (v : W) (levels deepest : ℕ) (inner : Tree) : Type 0 where
  pub left : IsLeft gives w (json_text indentation margin outer) v (json_text indentation deepest inner ++ nest_end indentation deepest levels)
  pub no_wider : IsTooWide indentation deepest (nesting inner) → IsTooWide indentation margin (nesting outer)
  pub no_deeper : depth inner ≤ depth outer
  pub given : IsGiven inner → IsGiven outer
