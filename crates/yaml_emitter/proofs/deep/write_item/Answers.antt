use Rattle.yaml_emitter.proofs.Answering.{append_assoc, arith, goes_err, goes_late, goes_ok, goes_refused, left_after, left_all, next_item, nil_from_length, no_entries, refl, stopped_at}
use Rattle.yaml_emitter.proofs.deep.write_item.Goals as goal

pub returns-in_default : goal.returns-in_default
returns-in_default g c =
    rw (nil_from_length _ c.in_default.ensures.cases, no_entries c.args.level c.args.is_first)
    (goes_ok refl left_all (omega arith) (λ v. ((tt, tt), v)))

pub returns-in_err-begin_entry : goal.returns-in_err-begin_entry
returns-in_err-begin_entry g c =
    rw (c.in-Some.ensures.cases.0, next_item, append_assoc, append_assoc)
    (goes_refused _ c.from_residual.ensures.0 left_all (c.in_err-begin_entry.ensures.err refl))

pub returns-in_err-push : goal.returns-in_err-push
returns-in_err-push g c =
    rw (c.in-Some.ensures.cases.0, next_item, append_assoc, append_assoc)
    (goes_err c.from_residual-in_err-push.ensures.0 (stopped_at tt (left_after left_all (c.in_ok-begin_entry.ensures.ok refl))))

pub returns : goal.returns
returns g c =
    rw (c.in-Some.ensures.cases.0, next_item, append_assoc, append_assoc)
    (goes_late (left_after left_all (c.in_ok-begin_entry.ensures.ok refl)) (omega arith)
    (λ f. (((f.0.0, f.1.0.0), (f.0.1, f.1.0.1)), f.1.1))
    (rw c.in_ok-push.ensures.ok at c.begin_value.ensures))
