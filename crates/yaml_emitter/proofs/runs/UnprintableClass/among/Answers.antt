use Rattle.yaml_emitter.proofs.Common.{arith, both_of, either, is_unprintable, lane_below, masked, other, splat_first, zip2_splat}
use Rattle.yaml_emitter.proofs.runs.UnprintableClass.among.Goals as goal

pub returns : goal.returns
returns c =
    let v = c.args.block in
    let long = c.fits-block.0 in
    masked _ is_unprintable v _ (omega arith) c.fits-block.1
    (either _ _ v (splat_first lane_below v 16 126 long) (both_of _ _ v
    (both_of _ _ v (zip2_splat lane_below v 16 32 long) (zip2_splat other v 16 10 long)) (zip2_splat other v 16 9 long))) tt
