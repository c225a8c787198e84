use Rattle.yaml_emitter.proofs.Answering.{ap, flat_box, flat_valid, in_any, root_block, stacked, sym, view, writes_as, writes_for}
use Rattle.yaml_emitter.proofs.node.write_node.Goals as goal

pub returns-then-has_parts-clause-text : goal.returns-then-has_parts-clause-text
returns-then-has_parts-clause-text g c =
    writes_as (ap (stacked c.args.level) (root_block _ _ c.args.at_root (view c.args.node.now) (sym (c.if-has_parts.ensures {u = tt})))) c.write_block.ensures.text

pub returns-else-has_parts-clause-text : goal.returns-else-has_parts-clause-text
returns-else-has_parts-clause-text g c =
    writes_as (ap (stacked c.args.level) (flat_box (view c.args.node.now) _ _ _ (sym (c.if-has_parts.ensures {u = tt})))) (writes_for (λ b. absurd b) c.write_scalar.ensures.text)

pub returns-else-has_parts-clause-valid : goal.returns-else-has_parts-clause-valid
returns-else-has_parts-clause-valid g c =
    in_any _ (flat_valid (view c.args.node.now) (sym (c.if-has_parts.ensures {u = tt})) c.write_scalar.ensures.valid)
