use Rattle.yaml_json.proofs.Answering.{arith, drop-set, length-set, pairs_below, set, set_comm, ◌%◌, ◌+◌, ◌≡◌}
use Rattle.yaml_json.proofs.integer.put_pair.Goals as goal

pub returns : goal.returns
returns c =
    let p = pairs_below c.args.pair c.requires.pair in
    let at = c.args.at in
    let buf = c.args.bytes.now in
    let e : at + 1 + 1 ≡ at + 2 = omega arith in
    rw (p.0, p.1, set_comm buf at (at + 1) _ _ (λ x. omega arith), drop-set (set buf (at + 1) (48 + c.args.pair % 10)) at _ (omega (arith, length-set buf (at + 1) (48 + c.args.pair % 10))), drop-set buf (at + 1) _ (omega arith), e)
