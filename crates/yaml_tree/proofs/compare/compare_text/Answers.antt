use Rattle.yaml_tree.proofs.Common.{ap, nat_cmp, slice_cmp, ◌∙◌}
use Rattle.yaml_tree.proofs.TextOrder.{text_cmp}
use Rattle.yaml_tree.proofs.compare.compare_text.Goals as goal

pub returns-in-String : goal.returns-in-String
returns-in-String c =
    rw c.in-String.is (c.cmp.ensures ∙ ap (slice_cmp nat_cmp c.args.text.now) c.as_str.ensures.value ∙ text_cmp c.args.text.now c.in-String.own c.utf8.text)
