use Rattle.yaml_chars.proofs.LaneLemmas.{bytes_at, goes_all, count_of, goes_before}
use Rattle.yaml_chars.proofs.lanes.simple_lanes.Goals as goal

pub returns-then-found-eq0-clause-goes : goal.returns-then-found-eq0-clause-goes
returns-then-found-eq0-clause-goes c = goes_all (bytes_at _ _ c.requires) _ _ c.not_simple-found.ensures c.if-found-eq0.true

pub returns-clause-within : goal.returns-clause-within
returns-clause-within c = count_of (bytes_at _ _ c.requires) _ _ c.not_simple-found.ensures c.if-found-eq0.false

pub returns-clause-goes : goal.returns-clause-goes
returns-clause-goes c = goes_before (bytes_at _ _ c.requires) _ _ c.not_simple-found.ensures c.if-found-eq0.false
