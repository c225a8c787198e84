-- What the code finds a text to mean, as a tree.
use Rattle.std.specs.Prelude.{ℕ, ℤ, Bool, if◌then◌else◌, List, Option, Some, None}
use Rattle.defs_tree.specs.Tree.{Tree, real, integer, string, boolean, null}
use Rattle.yaml_tree.specs.declared.plain.Meaning.{Meaning}
use Rattle.yaml_tree.specs.declared.plain.Meaning.TheVariants as meaning

-- the tree of a text with this meaning
abbrev pub meant : Meaning → List ℕ → Tree
meant (meaning.Integer z) text = integer z
meant (meaning.Boolean b) text = boolean b
meant meaning.Null text = null
meant meaning.Real text = real text
meant meaning.String text = string text

-- a meaning where a test holds, else the string
abbrev pub string_or : Meaning → Bool → Meaning
string_or m b = if b then m else meaning.String

-- an integer where there is one, else another meaning
abbrev pub integer_or : Meaning → Option ℤ → Meaning
integer_or m (Some z) = meaning.Integer z
integer_or m None = m
