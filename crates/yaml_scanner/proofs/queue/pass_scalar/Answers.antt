use Rattle.yaml_scanner.proofs.Common.{refl}
use Rattle.defs_text.specs.Text.{string_chars}
use Rattle.yaml_scanner.proofs.queue.pass_scalar.Goals as goal

pub text_of-requires : goal.text_of-requires
text_of-requires c = (string_chars c.args.text, refl)
