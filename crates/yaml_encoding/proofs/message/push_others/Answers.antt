use Rattle.yaml_encoding.proofs.Common.{rules, string_chars, ◌∙◌}
use Rattle.yaml_encoding.proofs.MessageLemmas.{others_step}
use Rattle.yaml_encoding.proofs.message.push_others.Goals as goal

pub others-preserved : goal.others-preserved
others-preserved c = others_step c.args.bytes.now (string_chars c.others.text) (string_chars c.push_text.new.text) (string_chars c.push_number.new.text) c.others.byte-index (search rules) (search rules) (search rules) ∙ c.others.invariant
