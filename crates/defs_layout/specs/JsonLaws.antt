-- Laws of the JSON texts of trees: each is the contract of the function of `src/laws.rt` that its comment names.
use Rattle.std.specs.Prelude.{◌≡◌, ℕ, ◌≤◌, Option, None, List}
use Rattle.defs_tree.specs.Tree.{Tree}
use Rattle.defs_layout.specs.Json.{IsJsonText}
use Rattle.defs_layout.specs.JsonText.{json_text}
use Rattle.defs_layout.specs.HasJson.{HasJson, nesting}
use Rattle.defs_layout.specs.Fault.{first_fault}

-- `json_texts_are_json`
abbrev pub JsonTextsAreJson : Type 0
JsonTextsAreJson = (indentation : Option ℕ) (t : Tree) → HasJson t → nesting t ≤ 255 → IsJsonText t (json_text indentation 0 t)

-- `values_have_json`
abbrev pub ValuesHaveJson : Type 0
ValuesHaveJson = (t : Tree) (text : List ℕ) → IsJsonText t text → HasJson t × (nesting t ≤ 255)

-- `json_has_no_fault`
abbrev pub JsonHasNoFault : Type 0
JsonHasNoFault = (t : Tree) → HasJson t → first_fault t ≡ None
