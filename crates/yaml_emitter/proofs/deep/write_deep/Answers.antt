use Rattle.yaml_emitter.proofs.Common.{ap, append-nil, AreRestsValid, arith, left_all, left_as, left_none, left_stopped, left_then, refl, rests_text, rests_weight, subst, sym, writes_err, writes_ok, ◌∙◌}
use Rattle.yaml_emitter.proofs.deep.write_deep.Goals as goal

pub rests-init : goal.rests-init
rests-init g c =
    rw c.in_ok-push.ensures.ok
    (rw c.new-rests.ensures (record {
      left = left_as (c.of-whole.ensures.text _ _ ∙ sym (append-nil _)) left_all;
      valid = λ v. c.of-whole.ensures.valid v.0;
    }))

pub returns-in_err-write_first-clause-text : goal.returns-in_err-write_first-clause-text
returns-in_err-write_first-clause-text g c =
    writes_err c.from_residual-in_err-write_first.ensures.0
    (left_stopped (left_as (ap (rests_text _ _) c.in-Some.ensures) c.rests.invariant.left) (c.in_err-write_first.ensures.err refl))

pub rests-preserved : goal.rests-preserved
rests-preserved g c =
    let popped = c.in-Some.ensures in
    let turn = c.in_ok-write_first.ensures in
    record {
      left = left_then (left_as (ap (rests_text _ _) popped) c.rests.invariant.left) (turn.left refl);
      valid = λ v. c.rests.invariant.valid (subst AreRestsValid (sym popped) (turn.valid refl v));
    }

pub rests-smaller : goal.rests-smaller
rests-smaller g c = omega (arith, ap rests_weight c.in-Some.ensures, c.in_ok-write_first.ensures.lighter refl)

pub returns-clause-text : goal.returns-clause-text
returns-clause-text g c = writes_ok refl (left_none (left_as (ap (rests_text _ _) c.in_default.ensures.0) c.rests.invariant.left))
