use Rattle.yaml_json.proofs.Answering.{ended, gone_on, pushed, rules}
use Rattle.yaml_json.proofs.string.read_escaped.Goals as goal

pub escapes-preserved : goal.escapes-preserved
escapes-preserved c =
    let first = rw c.escapes-test.true at c.take.ensures in
    gone_on (rw first at c.escapes.invariant) (c.in_ok-character.ensures {u = tt}) c.take_run-run.ensures
    (pushed c.escapes.string c.push.new.self c.push_str.new.self c.in_ok-character.character c.take_run-run.result.now (search rules)
    (c.in_ok-push.ensures {u = tt}).bytes (c.in_ok-push_str.ensures {u = tt}).bytes)

pub returns : goal.returns
returns c =
    let none = rw c.escapes-test.false at c.take.ensures in
    let closed = rw c.if-not-take.false at c.take-2.ensures in
    ended (rw (← none, closed) at c.escapes.invariant)
