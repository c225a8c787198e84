use Rattle.yaml_tree.proofs.TypingCommon.{◌∙◌}
use Rattle.yaml_tree.proofs.TypingLemmas.{parsed_signed}
use Rattle.yaml_tree.proofs.plain.number_in.Goals as goal

pub returns : goal.returns
returns c = c.ok.ensures.value ∙ parsed_signed c.args.base c.args.text.now _ c.from_str_radix.ensures.value
