use Rattle.std.proofs.Common.{◌≡◌, [], ◌++◌, ap, ◌∙◌}
use Rattle.std.proofs.lemmas.Str.{chars-nil}
use Rattle.std.specs.Prelude.{None, chars, string_bytes, String}
use Rattle.yaml_json.specs.JsonText.{json_text}
use Rattle.yaml_rust2.specs.Text.{string_chars}
use Rattle.yaml_rust2.specs.View.{view}
use Rattle.uses.proofs.json_and_back.json_of.Goals as goal

holds_nothing : {A : Type 0} (s : String A) → string_bytes s ≡ [] → string_chars s ≡ []
unfolding string_chars
holds_nothing s e = ap chars e ∙ chars-nil

pub returns-in-Ok-clause-text : goal.returns-in-Ok-clause-text
returns-in-Ok-clause-text c = c.in-Ok.ensures.written ∙ ap (λ before. before ++ json_text None 0 (view c.args.tree.now)) (holds_nothing _ c.new-text.ensures.bytes)
