use Rattle.std.proofs.lemmas.Simd.{zip2_splat}
use Rattle.yaml_chars.proofs.Common.{arith, is_first_byte}
use Rattle.yaml_chars.proofs.MaskLemmas.{below, either, masked, splat_first}
use Rattle.yaml_chars.proofs.lanes.first_bytes.Goals as goal

pub returns : goal.returns
returns c =
    let v = c.args.block in
    let long = c.fits-block.0 in
    masked _ is_first_byte v _ (omega arith) c.fits-block.1 (either _ _ v (zip2_splat below v 16 128 long)
    (splat_first below v 16 191 long)) tt
