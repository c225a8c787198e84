use Rattle.yaml_emitter.proofs.Common.{arith, either, hit, is_escaped, lane_below, masked, zip2_splat}
use Rattle.yaml_emitter.proofs.runs.EscapedClass.among.Goals as goal

pub returns : goal.returns
returns c =
    let v = c.args.block in
    let long = c.fits-block.0 in
    masked _ is_escaped v _ (omega arith) c.fits-block.1
    (either _ _ v (either _ _ v (either _ _ v (zip2_splat hit v 16 34 long) (zip2_splat hit v 16 92 long))
    (zip2_splat lane_below v 16 32 long)) (zip2_splat hit v 16 127 long)) tt
