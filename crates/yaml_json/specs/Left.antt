-- What is left to write of an array and an object, and the text of a node that has no parts.
use Rattle.std.specs.Prelude.{ℕ, ◌+◌, ◌-◌, ◌*◌, ◌^◌, ◌≤◌, Bool, if◌then◌else◌, Option, None, unwrap_or, List, [], ◌++◌, codes}
use Rattle.defs_tree.specs.Tree.{Tree, array, hash, Items, no_items, item, Pairs, no_pairs, pair}
use Rattle.defs_layout.specs.HasJson.{item_nesting, member_nesting}
use Rattle.defs_layout.specs.JsonText.{new_line, key_end, key_text, json_text, more_items, more_members}

-- a line would need 2^64 spaces
abbrev pub IsTooWide : (indentation : Option ℕ) → (margin levels : ℕ) → Type 0
IsTooWide indentation margin levels = 2 ^ 64 ≤ margin + unwrap_or indentation 0 * levels

-- the margin one level up
abbrev pub shallower : (indentation : Option ℕ) → (margin : ℕ) → ℕ
shallower indentation margin = margin - unwrap_or indentation 0

-- what stands before an entry
abbrev pub before_entry : (is_first : Bool) → (indentation : Option ℕ) → (margin : ℕ) → List ℕ
before_entry is_first indentation margin = (if is_first then [] else codes ",") ++ new_line indentation margin

-- the items that are left, where none or some were written
abbrev pub items_left : (is_first : Bool) → (indentation : Option ℕ) → (margin : ℕ) → Items → List ℕ
items_left is_first indentation margin no_items = []
items_left is_first indentation margin (item t ts) =
    before_entry is_first indentation margin ++ (json_text indentation margin t ++ more_items indentation margin ts)

-- the members that are left
abbrev pub members_left : (is_first : Bool) → (indentation : Option ℕ) → (margin : ℕ) → Pairs → List ℕ
members_left is_first indentation margin no_pairs = []
members_left is_first indentation margin (pair k v ps) =
    before_entry is_first indentation margin
    ++ (key_text k ++ (key_end indentation ++ (json_text indentation margin v ++ more_members indentation margin ps)))

-- the parts of an array or object that are left
abbrev pub parts_left : (is_first : Bool) → (indentation : Option ℕ) → (margin : ℕ) → Tree → List ℕ
parts_left is_first indentation margin (array ts) = items_left is_first indentation margin ts
parts_left is_first indentation margin (hash ps) = members_left is_first indentation margin ps
parts_left is_first indentation margin t = []

-- how deep its parts nest
abbrev pub part_nesting : Tree → ℕ
part_nesting (array ts) = item_nesting ts
part_nesting (hash ps) = member_nesting ps
part_nesting t = 0

-- the bracket before the parts, and that after them
abbrev pub opening : Tree → List ℕ
opening (array ts) = codes "["
opening t = codes "{"

abbrev pub closing : Tree → List ℕ
closing (array ts) = codes "]"
closing t = codes "}"

-- the text of a node that has no parts
abbrev pub flat_text : Tree → List ℕ
flat_text (array ts) = codes "[]"
flat_text (hash ps) = codes "{}"
flat_text t = json_text None 0 t
