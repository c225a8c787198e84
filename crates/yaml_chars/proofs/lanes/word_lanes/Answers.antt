use Rattle.yaml_chars.proofs.LaneLemmas.{pairs_at, goes_all, count_of, goes_before}
use Rattle.yaml_chars.proofs.lanes.word_lanes.Goals as goal

pub returns-then-found-eq0-clause-goes : goal.returns-then-found-eq0-clause-goes
returns-then-found-eq0-clause-goes c = goes_all (pairs_at _ _ c.requires) _ _ c.halting-found.ensures c.if-found-eq0.true

pub returns-clause-within : goal.returns-clause-within
returns-clause-within c = count_of (pairs_at _ _ c.requires) _ _ c.halting-found.ensures c.if-found-eq0.false

pub returns-clause-goes : goal.returns-clause-goes
returns-clause-goes c = goes_before (pairs_at _ _ c.requires) _ _ c.halting-found.ensures c.if-found-eq0.false
