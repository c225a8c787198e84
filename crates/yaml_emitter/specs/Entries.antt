-- What is written for the entries of arrays and hashes.
use Rattle.std.specs.Prelude.{ℕ, ◌+◌, Bool, true, false, not, ◌&&◌, if◌then◌else◌, List, [], ◌∷◌, ◌++◌, codes}
use Rattle.defs_tree.specs.Box.{box, is_block, string_box}
use Rattle.defs_tree.specs.Spelling.{spelling, is_scalar}
use Rattle.defs_tree.specs.Tree.{Tree, string}
use Rattle.yaml_emitter.specs.declared.node.Mark.TheVariants.{Dash, Question, Colon}
use Rattle.yaml_emitter.specs.declared.node.Mark.{Mark}
use Rattle.yaml_emitter.specs.At.{new_line, below, stacked}

-- the box of a scalar that is no key
abbrev pub scalar_box : Bool → Bool → Tree → List (List ℕ)
scalar_box multiline at_root (string s) = string_box multiline at_root s
scalar_box multiline at_root t = spelling t ∷ []

-- a mark
abbrev pub mark_text : Mark → List ℕ
mark_text Dash = codes "-"
mark_text Question = codes "?"
mark_text Colon = codes ":"

-- what stands before a block, after its mark
abbrev pub before_block : Bool → ℕ → List ℕ
before_block lower level = if lower then new_line (level + 1) else codes " "

-- what stands before a value, after its mark
abbrev pub before_value : Bool → ℕ → Tree → List ℕ
before_value blocks_lower level t = if blocks_lower && is_block t then new_line (level + 1) else codes " "

-- what stands after a mark: the value's box, one level deeper
abbrev pub after_mark : Bool → ℕ → Tree → List (List ℕ) → List ℕ
after_mark blocks_lower level t ls = before_value blocks_lower level t ++ stacked (level + 1) ls

-- what stands before an entry
abbrev pub before_entry : Bool → ℕ → List ℕ
before_entry is_first level = if is_first then [] else new_line level

-- a pair whose key is an array or a hash
abbrev pub complex_text : Bool → Bool → ℕ → Tree → Tree → List ℕ
complex_text compact multiline level k v =
    (codes "?" ++ after_mark (not compact) level k (box compact multiline false k))
    ++ (new_line level ++ (codes ":" ++ after_mark (not compact) level v (box compact multiline false v)))

-- a pair
abbrev pub pair_text : Bool → Bool → ℕ → Tree → Tree → List ℕ
pair_text compact multiline level k v =
    if is_scalar k then spelling k ++ (codes ":" ++ after_mark true level v (box compact multiline false v))
    else complex_text compact multiline level k v

-- the lines of the entries that are left, where none or some were written
abbrev pub entries_text : Bool → ℕ → List (List ℕ) → List ℕ
entries_text is_first level ls = if is_first then stacked level ls else below level ls
