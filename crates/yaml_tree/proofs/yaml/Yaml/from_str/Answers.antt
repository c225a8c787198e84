use Rattle.yaml_tree.proofs.Common.{ap, real, string, ◌∙◌}
use Rattle.yaml_tree.proofs.TextLemmas.{kept_chars}
use Rattle.yaml_tree.proofs.yaml.Yaml.from_str.Goals as goal

pub returns-in_ok-from_str-in-Real-clause-value : goal.returns-in_ok-from_str-in-Real-clause-value
returns-in_ok-from_str-in-Real-clause-value c = ap real (kept_chars _ _ c.in_ok-from_str-in-Real.ensures.ok) ∙ c.in-Real.ensures

pub returns-in_ok-from_str-in-String-clause-value : goal.returns-in_ok-from_str-in-String-clause-value
returns-in_ok-from_str-in-String-clause-value c = ap string (kept_chars _ _ c.in_ok-from_str-in-String.ensures.ok) ∙ c.in-String.ensures
