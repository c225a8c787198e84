use Rattle.yaml_json.proofs.Answering.{refl, shallow, stopped_for, sym, view, ◌∙◌}
use Rattle.yaml_json.proofs.write_laid_out.Goals as goal

pub returns-in-Err-clause-err : goal.returns-in-Err-clause-err
returns-in-Err-clause-err g c =
    let stop = c.in-Err.ensures.text.err refl in
    (shallow 128 (view c.args.tree.now) (sym c.is_shallow.ensures ∙ c.if-not-is_shallow.false), stop, g.met.W.Writer.stopped _ _ _ (stopped_for (λ _. tt) stop))
