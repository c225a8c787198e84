use Rattle.yaml_json.proofs.Answering.{refl, stopped_for}
use Rattle.yaml_json.proofs.deep.write_deep.Goals as goal

pub returns-clause-err : goal.returns-clause-err
returns-clause-err g c =
    let stop = c.in-Err.ensures.text.err refl in
    (c.in_ok-levels.ensures.whole, stop, g.met.W.Writer.stopped _ _ _ (stopped_for (λ _. tt) stop))
