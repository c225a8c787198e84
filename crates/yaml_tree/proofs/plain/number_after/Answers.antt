use Rattle.yaml_tree.proofs.TypingCommon.{ap, option_and_then, signed_number, sym, ◌∙◌}
use Rattle.yaml_tree.proofs.TypingLemmas.{lacks_after, strips_after}
use Rattle.yaml_tree.proofs.plain.number_after.Goals as goal

pub returns-in_err-strip_prefix : goal.returns-in_err-strip_prefix
returns-in_err-strip_prefix c =
    c.from_residual.ensures ∙ sym (ap (option_and_then (signed_number c.args.base)) (lacks_after c.args.prefix.now c.args.text.now (c.in_err-strip_prefix.ensures {u = tt}).cases))

pub returns : goal.returns
returns c =
    c.number_in.ensures ∙ sym (ap (option_and_then (signed_number c.args.base)) (strips_after c.args.prefix.now c.args.text.now _ (c.in_ok-strip_prefix.ensures {u = tt}).cases))
