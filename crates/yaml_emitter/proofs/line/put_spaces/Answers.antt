use Rattle.yaml_emitter.proofs.Answering.{ap, arith, deep_blanks, is_low, left_after, left_as, left_stopped, left_writes, low_blanks, refl, stopped_early, sym, writes_err, ◌∙◌}
use Rattle.yaml_emitter.proofs.line.put_spaces.Goals as goal

pub put_ascii-requires : goal.put_ascii-requires
put_ascii-requires g c = ap is_low c.spaces.ensures ∙ low_blanks 64

pub put_ascii-requires-2 : goal.put_ascii-requires-2
put_ascii-requires-2 g c = ap is_low c.spaces-2.ensures ∙ low_blanks c.left.left

pub returns-in_err-put_ascii : goal.returns-in_err-put_ascii
returns-in_err-put_ascii g c =
    writes_err c.from_residual.ensures.0
    (left_stopped (left_as (deep_blanks c.left.left (omega arith)) c.left.invariant) (stopped_early _ (rw c.spaces.ensures at (c.in_err-put_ascii.ensures.err refl))))

pub left-preserved : goal.left-preserved
left-preserved g c = left_after (left_as (deep_blanks c.left.left (omega arith)) c.left.invariant) (rw c.spaces.ensures at (c.in_ok-put_ascii.ensures.ok refl))

pub returns : goal.returns
returns g c = left_writes (left_as (sym c.spaces-2.ensures) c.left.invariant) c.put_ascii-2.ensures
