use Rattle.yaml_json.proofs.ReadCommon.{length}
use Rattle.yaml_json.proofs.likely.is_likely_json.Given as goal

abbrev pub invariant-values : goal.invariant-values
invariant-values l = Unit {0}

abbrev pub decreases-values : goal.decreases-values
decreases-values l = length l.rest
