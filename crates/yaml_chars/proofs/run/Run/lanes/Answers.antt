use Rattle.yaml_chars.proofs.Common.{arith, inl, inr, refl}
use Rattle.yaml_chars.proofs.WordsLemmas.{lanes_words}
use Rattle.yaml_chars.proofs.run.Run.lanes.Goals.{else-count-gt0-via-then-count-gt0+else-bytes-at-eq32, else-count-gt0-via-else-count-gt0}
use Rattle.yaml_chars.proofs.run.Run.lanes.Goals as goal

pub returns-then-bytes-at-eq32-clause-words : goal.returns-then-bytes-at-eq32-clause-words
returns-then-bytes-at-eq32-clause-words c =
    lanes_words _ _ _ _ _ c.requires c.lanes_on-count.ensures.within c.lanes_on-count.ensures.goes
    (inr (omega (arith, c.if-count-gt0.true), c.if-bytes-at-eq32.true))

pub returns-clause-words : goal.returns-clause-words
returns-clause-words c = lanes_words _ _ _ _ _ c.requires c.lanes_on-count.ensures.within c.lanes_on-count.ensures.goes (inl (
  refl,
  elim c.else-count-gt0.branch [
    | else-count-gt0-via-then-count-gt0+else-bytes-at-eq32 w ↦ λ some. w.if-bytes-at-eq32.false
    | else-count-gt0-via-else-count-gt0 w ↦ λ some. absurd (omega (arith, some, w.if-count-gt0.false))
  ],
))
