-- The law that ties the text that is written for a tree to the layout relation. It is stated here, over definitions of this crate
-- and of `defs_tree`, for the function that carries it.
use Rattle.std.specs.Prelude.{Bool}
use Rattle.defs_tree.specs.Tree.{Tree}
use Rattle.defs_tree.specs.Valid.{IsDistinct, FitsI64}
use Rattle.defs_tree.specs.Writable.{IsWritable}
use Rattle.defs_tree.specs.DumpText.{dump_text}
use Rattle.defs_layout.specs.Basic.{IsBasicLayout}

-- the text of a tree that can be written is a layout of that tree, in these settings
abbrev pub IsDumpLaidOut : (compact multiline : Bool) → Tree → Type 0
IsDumpLaidOut compact multiline t = IsWritable t → IsBasicLayout t (dump_text compact multiline t)

-- the same of every tree of the library, in every setting
abbrev pub DumpsAreLaidOut : Type 0
DumpsAreLaidOut = (compact multiline : Bool) (t : Tree) → IsDistinct t → FitsI64 t → IsDumpLaidOut compact multiline t
