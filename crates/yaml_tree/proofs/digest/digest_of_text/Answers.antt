use Rattle.yaml_tree.proofs.Common.{ap, encodes-chars, sym, text_digest, ◌∙◌}
use Rattle.yaml_tree.proofs.digest.digest_of_text.Goals as goal

pub returns-clause-digest : goal.returns-clause-digest
returns-clause-digest c = c.digest_of_bytes.ensures.number ∙ ap text_digest (c.as_bytes.ensures.value ∙ sym (encodes-chars c.args.text.now c.utf8.text))
