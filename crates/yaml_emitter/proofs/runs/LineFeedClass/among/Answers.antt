use Rattle.yaml_emitter.proofs.Common.{arith, hit, is_break, masked, zip2_splat}
use Rattle.yaml_emitter.proofs.runs.LineFeedClass.among.Goals as goal

pub returns : goal.returns
returns c =
    let v = c.args.block in
    let long = c.fits-block.0 in
    masked _ is_break v _ (omega arith) c.fits-block.1 (zip2_splat hit v 16 10 long) tt
