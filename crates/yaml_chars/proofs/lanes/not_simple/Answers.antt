use Rattle.std.proofs.lemmas.Simd.{zip2_splat}
use Rattle.yaml_chars.proofs.Common.{arith, halts_simple}
use Rattle.yaml_chars.proofs.MaskLemmas.{below, either, hit, masked, splat_first}
use Rattle.yaml_chars.proofs.lanes.not_simple.Goals as goal

pub returns : goal.returns
returns c =
    let v = c.args.block in
    let long = c.fits-block.0 in
    masked _ halts_simple v _ (omega arith) c.fits-block.1
    (either _ _ v (either _ _ v (either _ _ v (zip2_splat below v 16 32 long) (splat_first below v 16 126 long))
    (zip2_splat hit v 16 58 long)) (zip2_splat hit v 16 35 long)) tt
