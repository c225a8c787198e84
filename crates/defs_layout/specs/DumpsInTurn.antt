-- The texts that are written for several trees, and the law that ties them to layouts in turn. It is stated here, for the function
-- that carries it.
use Rattle.std.specs.Prelude.{ℕ, Bool, List, [], ◌∷◌, ◌++◌, All}
use Rattle.defs_tree.specs.Tree.{Tree}
use Rattle.defs_tree.specs.DumpText.{dump_text}
use Rattle.defs_layout.specs.Marks.{line_feed}
use Rattle.defs_layout.specs.InTurn.{AreLaidOutInTurn}
use Rattle.defs_layout.specs.DumpIsInjective.{CanBeWritten}

-- the texts that are written for the trees in these settings, an LF after each
abbrev pub dump_texts : (compact multiline : Bool) → List Tree → List ℕ
dump_texts compact multiline [] = []
dump_texts compact multiline (t ∷ ts) = dump_text compact multiline t ++ line_feed ∷ dump_texts compact multiline ts

-- in each setting, trees that can be written are laid out in turn as these texts
abbrev pub DumpsInTurnAreLaidOut : Type 0
DumpsInTurnAreLaidOut = (compact multiline : Bool) (ts : List Tree) → All CanBeWritten ts → AreLaidOutInTurn ts (dump_texts compact multiline ts)
