-- What yamljson says of a file that it prints.
use Rattle.std.specs.Prelude.{◌≡◌, ℕ, ◌+◌, ◌-◌, ◌*◌, ◌^◌, min, List, Ok, Vec, String, string_bytes, chars, length}
use Rattle.std.specs.List.{All}
use Rattle.std.specs.declared.alloc.Global.{Global}
use Rattle.defs_text.specs.Text.{string_chars, up_to_nul}
use Rattle.defs_layout.specs.HasJson.{HasJson}
use Rattle.yaml_encoding.specs.Decoding.{text, strict, parts}
use Rattle.yaml_tree.specs.View.{view}
use Rattle.yaml_tree.specs.declared.yaml.Yaml.{Yaml}
use Rattle.yaml_loader.specs.Limited.{Answers}
use Rattle.yaml_loader.specs.declared.limits.Limits.{Limits}
use Rattle.yaml_programs.specs.Bounds.{bound}
use Rattle.yaml_programs.specs.declared.bounds.Bounds.{Bounds}
use Rattle.yamljson.specs.declared.run.YamlJson.{YamlJson}

-- the limits on a text of so many bytes in UTF-8
abbrev pub limits_of : Bounds → (bytes : ℕ) → Limits
limits_of b bytes = record {
  levels = bound b.levels b.are_lifted 256;
  size = bound b.size b.are_lifted (min (3 * bytes + 100000) (2 ^ 64 - 1));
}

-- its bytes are a text without malformations
abbrev pub IsText : (bytes : List ℕ) → String Global → Type 0
IsText bytes s = text (string_chars s) ≡ strict (parts bytes)

-- a text loads within the limits
abbrev pub IsLoaded : Bounds → (utf8 : List ℕ) → Vec Yaml Global → Type 0
IsLoaded b utf8 documents = Answers (limits_of b (length utf8)) (up_to_nul (chars utf8)) (Ok documents)

-- each document has a JSON text
abbrev pub HaveJson : List Yaml → Type 0
HaveJson documents = All (λ d. HasJson (view d)) documents

-- the file's text loads within the limits, and each document has a JSON text
abbrev pub IsPrinted : YamlJson → (path bytes : List ℕ) → Type 0
IsPrinted p path bytes =
    (s : String Global) × IsText bytes s × (documents : Vec Yaml Global) × IsLoaded p.bounds (string_bytes s) documents × HaveJson documents.items
