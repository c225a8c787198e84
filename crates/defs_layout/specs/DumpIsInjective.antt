-- A law on the text that is written for a tree: no two trees have one text. It is stated here, for the function that carries it.
use Rattle.std.specs.Prelude.{◌≡◌, Bool}
use Rattle.defs_tree.specs.Tree.{Tree}
use Rattle.defs_tree.specs.Valid.{IsDistinct, FitsI64}
use Rattle.defs_tree.specs.Writable.{IsWritable}
use Rattle.defs_tree.specs.DumpText.{dump_text}

-- a tree of the library that can be written
abbrev pub CanBeWritten : Tree → Type 0
CanBeWritten t = IsDistinct t × FitsI64 t × IsWritable t

-- in each setting, trees with one text are one tree
abbrev pub DumpIsInjective : Type 0
DumpIsInjective = (compact multiline : Bool) (t u : Tree) → CanBeWritten t → CanBeWritten u → dump_text compact multiline t ≡ dump_text compact multiline u → t ≡ u
