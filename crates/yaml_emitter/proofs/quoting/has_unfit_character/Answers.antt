use Rattle.yaml_emitter.proofs.Answering.{ap, bytes_tested, is_unfit_for_plain, list_any, wide_fits, ◌∙◌}
use Rattle.yaml_emitter.proofs.quoting.has_unfit_character.Goals as goal

pub returns : goal.returns
returns c = c.has_unfit_byte.ensures ∙ ap (list_any is_unfit_for_plain) c.as_bytes.ensures.value ∙ bytes_tested is_unfit_for_plain wide_fits c.args.text.now c.utf8.text
