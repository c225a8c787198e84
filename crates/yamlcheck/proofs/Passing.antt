-- A file that loads is checked.
use Rattle.std.proofs.Common.{◌≡◌, ℕ, List, length, string_bytes, Global, subst}
use Rattle.std.specs.Prelude.{Result, Ok, Vec, String, chars}
use Rattle.defs_text.specs.Text.{string_chars, up_to_nul}
use Rattle.yaml_encoding.specs.Decoding.{text, strict, parts}
use Rattle.yaml_tree.specs.declared.yaml.Yaml.{Yaml}
use Rattle.yaml_loader.specs.Limited.{Answers}
use Rattle.yaml_loader.specs.declared.limits_error.LimitsError.{LimitsError}
use Rattle.yaml_loader.specs.declared.limits.Limits.{Limits}
use Rattle.yamlcheck.specs.Checked.{limits_of, IsChecked}
use Rattle.yamlcheck.specs.declared.run.YamlCheck.{YamlCheck}

pub passing : (p : YamlCheck) (path bytes input : List ℕ) (s : String Global) (utf8 : List ℕ) (l : Limits) (r : Result (Vec Yaml Global) LimitsError)
    (documents : Vec Yaml Global) → input ≡ bytes → text (string_chars s) ≡ strict (parts input) → utf8 ≡ string_bytes s
    → l ≡ limits_of p.bounds (length utf8) → Answers l (up_to_nul (chars utf8)) r → r ≡ Ok documents → IsChecked p path bytes
passing p path bytes input s utf8 l r documents same decoded spelled limits answers loaded = (
  s,
  subst (λ b. text (string_chars s) ≡ strict (parts b)) same decoded,
  documents,
  subst (λ u. Answers (limits_of p.bounds (length u)) (up_to_nul (chars u)) (Ok documents)) spelled
      (subst (λ x. Answers (limits_of p.bounds (length utf8)) (up_to_nul (chars utf8)) x) loaded
      (subst (λ m. Answers m (up_to_nul (chars utf8)) r) limits answers)),
)
