use Rattle.yaml_chars.proofs.Common.{arith}
use Rattle.yaml_chars.proofs.WordsLemmas.{goes_line, goes_plain, goes_quoted}
use Rattle.yaml_chars.proofs.run.Run.lanes_on.Goals as goal

pub returns-in-Line-clause-goes : goal.returns-in-Line-clause-goes
returns-in-Line-clause-goes c = λ k h. rw c.in-Line.is (goes_line _ _ (c.line_lanes.ensures.goes k h))

pub returns-in-Plain-false-clause-goes : goal.returns-in-Plain-false-clause-goes
returns-in-Plain-false-clause-goes c = λ k h. rw (c.in-Plain-false.is, c.in-Plain-false.field-0-test)
    (goes_plain _ _ (c.word_lanes.ensures.goes k h))

pub returns-in-Quoted-eq34-clause-goes : goal.returns-in-Quoted-eq34-clause-goes
returns-in-Quoted-eq34-clause-goes c = λ k h.
    rw (c.in-Quoted-eq34.is, ← c.in-Quoted-eq34.field-0-is, c.in-Quoted-eq34.field-0-test)
    (goes_quoted 34 _ _ (omega arith) (c.word_lanes-in-Quoted-eq34.ensures.goes k h))

pub returns-in-Quoted-eq39-clause-goes : goal.returns-in-Quoted-eq39-clause-goes
returns-in-Quoted-eq39-clause-goes c = λ k h.
    rw (c.in-Quoted-eq39.is, ← c.in-Quoted-eq39.field-0-is, c.in-Quoted-eq39.field-0-test)
    (goes_quoted 39 _ _ (omega arith) (c.word_lanes-in-Quoted-eq39.ensures.goes k h))
