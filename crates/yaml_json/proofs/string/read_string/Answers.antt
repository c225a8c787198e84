use Rattle.yaml_json.proofs.Answering.{kept_chars, escaped_string, ok_of, plain_string}
use Rattle.yaml_json.proofs.string.read_string.Goals as goal

pub returns-then-take : goal.returns-then-take
returns-then-take c =
    let closed = rw c.if-take.true at c.take.ensures in
    plain_string (rw closed at c.take_run-run.ensures) (kept_chars c.take_run-run.result.now c.in_ok-string.string
    (c.in_ok-string.ensures {u = tt}).ok)

pub returns : goal.returns
returns c =
    let none = rw c.if-take.false at c.take.ensures in
    let start = kept_chars c.take_run-run.result.now c.in_ok-string.string (c.in_ok-string.ensures {u = tt}).ok in
    ok_of _ _ c.read_escaped.result (λ string part. escaped_string
    (rw (← none) at c.take_run-run.ensures) start part) c.read_escaped.ensures
