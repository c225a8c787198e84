use Rattle.yaml_json.proofs.Answering.{left_all, stopped_at, when_err}
use Rattle.yaml_json.proofs.deep.begin_level.Goals as goal

pub returns-in_err-inner-clause-stopped : goal.returns-in_err-inner-clause-stopped
returns-in_err-inner-clause-stopped g c = when_err _ (stopped_at c.in_err-inner.ensures left_all)
