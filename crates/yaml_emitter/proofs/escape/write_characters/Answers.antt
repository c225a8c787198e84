use Rattle.yaml_emitter.proofs.Answering.{cut_written, left_after, left_as, left_stopped, left_writes, refl, stopped_early, writes_err}
use Rattle.yaml_emitter.proofs.escape.write_characters.Goals as goal

pub returns-in_err-put : goal.returns-in_err-put
returns-in_err-put g c =
    let left = left_as (cut_written (c.in-Some.ensures {u = tt})) c.runs.invariant.left in
    writes_err c.from_residual.ensures.0 (left_stopped left (stopped_early _ (c.in_err-put.ensures.err refl)))

pub returns-in_err-write_character : goal.returns-in_err-write_character
returns-in_err-write_character g c =
    let left = left_after (left_as (cut_written (c.in-Some.ensures {u = tt})) c.runs.invariant.left) (c.in_ok-put.ensures.ok refl) in
    writes_err c.from_residual-in_err-write_character.ensures.0
    (left_stopped left (stopped_early _ (c.in_err-write_character.ensures.err refl)))

pub runs-preserved : goal.runs-preserved
runs-preserved g c =
    let left = left_after (left_as (cut_written (c.in-Some.ensures {u = tt})) c.runs.invariant.left) (c.in_ok-put.ensures.ok refl) in
    record { utf8 = (c.in-Some.ensures {u = tt}).utf8; left = left_after left (c.in_ok-write_character.ensures.ok refl) }

pub returns : goal.returns
returns g c = left_writes (left_as c.in_default.ensures c.runs.invariant.left) c.put-2.ensures
