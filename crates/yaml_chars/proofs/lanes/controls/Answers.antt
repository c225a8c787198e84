use Rattle.std.proofs.lemmas.Simd.{zip2_splat}
use Rattle.yaml_chars.proofs.Common.{arith, halts_line}
use Rattle.yaml_chars.proofs.MaskLemmas.{below, either, hit, masked}
use Rattle.yaml_chars.proofs.lanes.controls.Goals as goal

pub returns : goal.returns
returns c =
    let v = c.args.block in
    let long = c.fits-block.0 in
    masked _ halts_line v _ (omega arith) c.fits-block.1 (either _ _ v (zip2_splat below v 16 32 long) (zip2_splat hit v 16 127 long)) tt
