use Rattle.yaml_json.proofs.ReadCommon.{ap, arith, ends_run, run_stops, run_through, sym, ◌∙◌}
use lib.Count.{count_trailing_zeros}
use Rattle.yaml_json.proofs.run.run_length.Goals as goal

pub returns-then-found-ne0 : goal.returns-then-found-ne0
returns-then-found-ne0 c =
    let found = c.marks-found in
    let run = run_stops ends_run c.args.bytes.now c.lanes.at 16 (omega arith) (omega arith) (omega (arith, found.ensures)) ∙ ap (count_trailing_zeros 64) (sym found.ensures) in
    omega (arith, run, c.lanes.invariant.0)

pub lanes-preserved : goal.lanes-preserved
lanes-preserved c =
    let run = run_through ends_run c.args.bytes.now c.lanes.at 16 (omega arith) (omega (arith, c.marks-found.ensures)) in
    (omega (arith, run, c.lanes.invariant.0), omega arith)
