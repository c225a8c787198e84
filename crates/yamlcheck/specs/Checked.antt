-- What yamlcheck says of a file that it passes.
use Rattle.std.specs.Prelude.{◌≡◌, ℕ, ◌+◌, ◌-◌, ◌*◌, ◌^◌, min, List, Ok, Vec, String, string_bytes, chars, length}
use Rattle.std.specs.declared.alloc.Global.{Global}
use Rattle.defs_text.specs.Text.{string_chars, up_to_nul}
use Rattle.yaml_encoding.specs.Decoding.{text, strict, parts}
use Rattle.yaml_tree.specs.declared.yaml.Yaml.{Yaml}
use Rattle.yaml_loader.specs.Limited.{Answers}
use Rattle.yaml_loader.specs.declared.limits.Limits.{Limits}
use Rattle.yaml_programs.specs.Bounds.{bound}
use Rattle.yaml_programs.specs.declared.bounds.Bounds.{Bounds}
use Rattle.yamlcheck.specs.declared.run.YamlCheck.{YamlCheck}

-- the limits on a text of so many bytes in UTF-8
abbrev pub limits_of : Bounds → (bytes : ℕ) → Limits
limits_of b bytes = record {
  levels = bound b.levels b.are_lifted 256;
  size = bound b.size b.are_lifted (min (3 * bytes + 100000) (2 ^ 64 - 1));
}

-- its bytes are a text without malformations, which loads within the limits
abbrev pub IsChecked : YamlCheck → (path bytes : List ℕ) → Type 0
IsChecked p path bytes =
    (s : String Global) × (text (string_chars s) ≡ strict (parts bytes))
    × (documents : Vec Yaml Global) × Answers (limits_of p.bounds (length (string_bytes s))) (up_to_nul (chars (string_bytes s))) (Ok documents)
