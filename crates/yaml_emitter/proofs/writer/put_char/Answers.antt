use Rattle.yaml_emitter.proofs.Common.{ap, chars, writes_as, ◌∙◌}
use Rattle.yaml_chars.proofs.TextLemmas.{chars-encode}
use Rattle.yaml_emitter.proofs.writer.put_char.Goals as goal

pub returns : goal.returns
returns g c = writes_as (ap chars c.encode_utf8.ensures.value ∙ chars-encode c.args.c c.ranges.c.0) c.put.ensures
