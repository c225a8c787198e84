-- How a scalar is spelt on one line, and an empty array or hash.
-- YAML 1.2, section 10.3 (the core schema's canonical forms) and chapter 7 (flow styles).
use Rattle.std.specs.Prelude.{ℕ, Bool, true, false, if◌then◌else◌, List, [], codes}
use Rattle.std.specs.Fmt.{signed_decimal as decimal_digits}
use Rattle.defs_tree.specs.Tree.{Tree, real, integer, string, boolean, array, hash, alias, null, bad_value}
use Rattle.defs_tree.specs.Escapes.{double_quoted}
use Rattle.defs_tree.specs.Quoting.{is_quoted}

-- a string: as it stands, or in double quotes
abbrev pub string_spelling : List ℕ → List ℕ
string_spelling s = if is_quoted s then double_quoted s else s

-- a boolean by its word
abbrev pub boolean_spelling : Bool → List ℕ
boolean_spelling true = codes "true"
boolean_spelling false = codes "false"

-- the spelling of a scalar; arrays and hashes have one only where they are empty. An integer is its decimal digits, after `-` where
-- it is negative. An alias has the empty spelling, and a bad value is spelt like null.
abbrev pub spelling : Tree → List ℕ
spelling (real s) = s
spelling (integer z) = decimal_digits z
spelling (string s) = string_spelling s
spelling (boolean b) = boolean_spelling b
spelling (array ts) = codes "[]"
spelling (hash ps) = codes "{}"
spelling (alias n) = []
spelling null = codes "~"
spelling bad_value = codes "~"

-- trees that are spelt on one line: all but arrays and hashes
abbrev pub is_scalar : Tree → Bool
is_scalar (array ts) = false
is_scalar (hash ps) = false
is_scalar _ = true
