use Rattle.std.proofs.lemmas.Simd.{zip2_splat}
use Rattle.yaml_json.proofs.ReadCommon.{arith, below, either, ends_run, hit, masked}
use Rattle.yaml_json.proofs.run.marks.Goals as goal

pub returns : goal.returns
returns c =
    let v = c.args.block in
    let long = c.fits-block.0 in
    masked _ ends_run v _ (omega arith) c.fits-block.1
    (either _ _ v (either _ _ v (zip2_splat hit v 16 34 long) (zip2_splat hit v 16 92 long)) (zip2_splat below v 16 32 long)) tt
