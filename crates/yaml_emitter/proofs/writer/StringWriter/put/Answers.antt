use Rattle.std.specs.Prelude.{chars}
use Rattle.yaml_emitter.proofs.Common.{ap, chars-append, IsUtf8-string_bytes, refl, stopped_one, string_bytes, string_chars, writes_err, writes_ok, wrote_one, ◌∙◌}
use Rattle.yaml_emitter.proofs.writer.StringWriter.put.Goals as goal

pub returns-in-Ok : goal.returns-in-Ok
unfolding string_chars
returns-in-Ok c = writes_ok refl (wrote_one _ _ _ _ (ap chars c.in-Ok.ensures.bytes ∙ chars-append (string_bytes c.args.self.now) c.args.text.now (IsUtf8-string_bytes c.args.self.now)))

pub returns-in-Err : goal.returns-in-Err
unfolding string_chars
returns-in-Err c = writes_err refl (stopped_one _ _ _ _ _ (ap chars c.in-Err.ensures.bytes))
