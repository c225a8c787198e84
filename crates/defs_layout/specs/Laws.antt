-- Laws of the relations between trees and texts: each is the contract of the function of `src/laws.rt` that its comment names.
use Rattle.std.specs.Prelude.{ℕ, List, [], ◌∷◌}
use Rattle.defs_tree.specs.Tree.{Tree}
use Rattle.defs_layout.specs.Json.{IsJsonText}
use Rattle.defs_layout.specs.Basic.{IsBasicLayout}
use Rattle.defs_layout.specs.Layout.{AreLaidOut}
use Rattle.defs_layout.specs.InTurn.{AreLaidOutInTurn}
use Rattle.defs_layout.specs.Sound.{IsSound, AreAllSound}

-- `json_trees_are_sound`
abbrev pub JsonTreesAreSound : Type 0
JsonTreesAreSound = (t : Tree) (text : List ℕ) → IsJsonText t text → IsSound t

-- `laid_out_trees_are_sound`
abbrev pub LaidOutTreesAreSound : Type 0
LaidOutTreesAreSound = (ts : List Tree) (text : List ℕ) → AreLaidOut ts text → AreAllSound ts

-- `basic_layouts_are_layouts`
abbrev pub BasicLayoutsAreLayouts : Type 0
BasicLayoutsAreLayouts = (t : Tree) (text : List ℕ) → IsBasicLayout t text → AreLaidOut (t ∷ []) text

-- `layouts_in_turn_are_layouts`, for one tree or more
abbrev pub LayoutsInTurnAreLayouts : Type 0
LayoutsInTurnAreLayouts = (t : Tree) (ts : List Tree) (text : List ℕ) → AreLaidOutInTurn (t ∷ ts) text → AreLaidOut (t ∷ ts) text
