use Rattle.yaml_emitter.proofs.Common.{arith, both_of, either, hit, is_unfit_for_plain, lane_below, masked, other, zip2_splat}
use Rattle.yaml_emitter.proofs.runs.UnfitClass.among.Goals as goal

pub returns : goal.returns
unfolding is_unfit_for_plain
returns c =
    let v = c.args.block in
    let long = c.fits-block.0 in
    masked _ is_unfit_for_plain v _ (omega arith) c.fits-block.1
    (either _ _ v
    (either _ _ v (either _ _ v (either _ _ v (either _ _ v (either _ _ v (either _ _ v (either _ _ v (either _ _ v (either _ _ v (either _ _ v
    (zip2_splat hit v 16 58 long) (zip2_splat hit v 16 123 long)) (zip2_splat hit v 16 125 long)) (zip2_splat hit v 16 91 long)) (zip2_splat hit v 16 93 long))
    (zip2_splat hit v 16 44 long)) (zip2_splat hit v 16 35 long)) (zip2_splat hit v 16 96 long)) (zip2_splat hit v 16 34 long)) (zip2_splat hit v 16 39 long)) (zip2_splat hit v 16 92 long))
    (both_of _ _ v (both_of _ _ v (both_of _ _ v (both_of _ _ v
    (both_of _ _ v (zip2_splat lane_below v 16 32 long) (zip2_splat other v 16 7 long)) (zip2_splat other v 16 8 long))
    (zip2_splat other v 16 11 long)) (zip2_splat other v 16 12 long)) (zip2_splat other v 16 27 long))) tt
