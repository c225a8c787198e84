use Rattle.yaml_scanner.proofs.Common.{map_over_more, no_implicit}
use Rattle.yaml_scanner.proofs.keys.close_all.Goals as goal

pub keys-preserved : goal.keys-preserved
keys-preserved c = map_over_more no_implicit c.args.keys.now c.keys.keys c.keys.key-index c.key-item.result c.keys-test.true c.keys.invariant c.key-item.is
