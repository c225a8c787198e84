-- What options make of yamljson.
use Rattle.std.specs.Prelude.{◌≡◌, ℕ, Bool, true, List, codes}
use Rattle.std.specs.Bool.{MatchBool}
use Rattle.std.specs.Str.{bytes_eq}
use Rattle.yaml_programs.specs.Bounds.{IsBoundSet}
use Rattle.yamljson.specs.declared.run.YamlJson.{YamlJson}

abbrev pub IsSet : (old : YamlJson) → (name value : List ℕ) → (is_taken : Bool) → (new : YamlJson) → Type 0
IsSet old name value is_taken new =
    MatchBool (bytes_eq name (codes "--indent")) ((is_taken ≡ true) × (new ≡ record old { is_indented = true }))
    ((new.is_indented ≡ old.is_indented) × IsBoundSet old.bounds name value is_taken new.bounds)
