use Rattle.yaml_emitter.proofs.Common.{ap, arith, count_trailing_zeros, run_stops, run_through, sym, ◌∙◌}
use Rattle.yaml_emitter.proofs.runs.run_length.Goals as goal

pub returns-then-found-ne0 : goal.returns-then-found-ne0
returns-then-found-ne0 g c =
    let found = c.among-found in
    let run = run_stops g.C.Class.holds c.args.bytes.now c.lanes.at 16 (omega arith) (omega arith) (omega (arith, found.ensures)) ∙ ap (count_trailing_zeros 64) (sym found.ensures) in
    omega (arith, run, c.lanes.invariant.0)

pub lanes-preserved : goal.lanes-preserved
lanes-preserved g c =
    let run = run_through g.C.Class.holds c.args.bytes.now c.lanes.at 16 (omega arith) (omega (arith, c.among-found.ensures)) in
    (omega (arith, run, c.lanes.invariant.0), omega arith)
