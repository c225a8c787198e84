use Rattle.yaml_chars.proofs.Common.{arith, is_beyond}
use Rattle.yaml_chars.proofs.MaskLemmas.{below, masked, splat_first}
use Rattle.yaml_chars.proofs.lanes.beyond_ascii.Goals as goal

pub returns : goal.returns
returns c = let long = c.fits-block.0 in masked _ is_beyond c.args.block _ (omega arith) c.fits-block.1 (splat_first below _ 16 127 long) tt
