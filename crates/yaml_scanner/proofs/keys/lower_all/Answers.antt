use Rattle.yaml_scanner.proofs.Common.{ap, lowered, map_over_more, set, sym, ◌∙◌}
use Rattle.yaml_scanner.proofs.keys.lower_all.Goals as goal

pub keys-preserved : goal.keys-preserved
keys-preserved c = ap (λ x. set c.keys.keys c.keys.key-index x) (c.lower_one.ensures ∙ ap lowered (sym c.key-item.is)) ∙ map_over_more lowered c.args.keys.now c.keys.keys c.keys.key-index c.key-item.result c.keys-test.true c.keys.invariant c.key-item.is
