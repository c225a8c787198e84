use Rattle.yaml_emitter.proofs.Common.{ap, arith, count_trailing_zeros, length, not, prefix_len-le-length, run_from, run_stops, run_through, sym, ◌-◌, ◌∙◌}
use Rattle.yaml_emitter.proofs.runs.last_run.Goals as goal

pub returns-then-found-eq0 : goal.returns-then-found-eq0
returns-then-found-eq0 g c =
    let d = c.args.bytes.now in
    let last = length d - 16 in
    let whole = run_from g.C.Class.holds d last (omega (arith, c.requires.before)) in
    let run = run_through g.C.Class.holds d last 16 (omega arith) (omega (arith, c.among-found.ensures)) in
    omega (arith, whole, run, prefix_len-le-length (λ b. not (g.C.Class.holds b)) d)

pub returns : goal.returns
returns g c =
    let d = c.args.bytes.now in
    let last = length d - 16 in
    let found = c.among-found in
    let whole = run_from g.C.Class.holds d last (omega (arith, c.requires.before)) in
    let run = run_stops g.C.Class.holds d last 16 (omega arith) (omega arith) (omega (arith, found.ensures)) ∙ ap (count_trailing_zeros 64) (sym found.ensures) in
    omega (arith, whole, run)
