use Rattle.yaml_scanner.proofs.Common.{ap, map_over_more, set, still_implicit, sym, ◌∙◌}
use Rattle.yaml_scanner.proofs.keys.drop_far.Goals as goal

pub keys-preserved : goal.keys-preserved
keys-preserved c = ap (λ x. set c.keys.keys c.keys.key-index x) (c.drop_one.ensures ∙ ap (still_implicit c.args.mark) (sym c.key-item.is)) ∙ map_over_more (still_implicit c.args.mark) c.args.keys.now c.keys.keys c.keys.key-index c.key-item.result c.keys-test.true c.keys.invariant c.key-item.is
