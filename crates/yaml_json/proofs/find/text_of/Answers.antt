use Rattle.std.specs.Str.{chars}
use Rattle.yaml_json.proofs.Answering.{ap, key, other_step, string_chars, sym, ◌∙◌}
use Rattle.yaml_json.proofs.find.text_of.Goals as goal

pub returns-in_default : goal.returns-in_default
unfolding string_chars chars
returns-in_default c = ap (λ bs. key (chars bs)) c.new.ensures.bytes ∙ sym (other_step c.args.key.now c.in_default.not-String)
