-- Laws of layouts: each is the contract of the function of `src/layouts.rt` that its comment names.
use Rattle.std.specs.Prelude.{Bool, []}
use Rattle.defs_layout.specs.Layout.{Layout, IsLayout, spell, trees_of}
use Rattle.defs_event.specs.Meaning.{Means}
use Rattle.proof_loads.specs.Spelled.{IsWithoutNul}

-- `layouts_mean_their_trees`
abbrev pub LayoutsMeanTheirTrees : Type 0
LayoutsMeanTheirTrees = (keep_tags : Bool) (w : Layout) → IsLayout w → Means keep_tags (spell w []) (trees_of w.documents)

-- `layouts_are_without_nul`
abbrev pub LayoutsAreWithoutNul : Type 0
LayoutsAreWithoutNul = (w : Layout) → IsLayout w → IsWithoutNul (spell w [])
