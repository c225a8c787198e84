-- Laws of texts of several documents, layouts one after another: each is the contract of the function of `src/in_turn.rt` that its comment names.
use Rattle.std.specs.Prelude.{ℕ, Bool, List, All}
use Rattle.defs_tree.specs.Tree.{Tree}
use Rattle.defs_layout.specs.InTurn.{AreLaidOutInTurn}
use Rattle.defs_layout.specs.DumpIsInjective.{CanBeWritten}
use Rattle.defs_layout.specs.DumpsInTurn.{dump_texts}
use Rattle.defs_event.specs.Meaning.{Means}
use Rattle.proof_loads.specs.Spelled.{IsWithoutNul}

-- `layouts_in_turn_mean_their_trees`
abbrev pub LayoutsInTurnMeanTheirTrees : Type 0
LayoutsInTurnMeanTheirTrees = (keep_tags : Bool) (trees : List Tree) (text : List ℕ) → AreLaidOutInTurn trees text → Means keep_tags text trees

-- `layouts_in_turn_are_without_nul`
abbrev pub LayoutsInTurnAreWithoutNul : Type 0
LayoutsInTurnAreWithoutNul = (trees : List Tree) (text : List ℕ) → AreLaidOutInTurn trees text → IsWithoutNul text

-- `dumps_in_turn_mean_their_trees`, in each setting
abbrev pub DumpsInTurnMeanTheirTrees : Type 0
DumpsInTurnMeanTheirTrees = (keep_tags compact multiline : Bool) (trees : List Tree) → All CanBeWritten trees → Means keep_tags (dump_texts compact multiline trees) trees
