use Rattle.yaml_chars.proofs.Common.{arith}
use Rattle.yaml_chars.proofs.BlockLineLemmas.{simple_further}
use Rattle.yaml_chars.proofs.block_line.simple_end.Goals as goal

pub blocks-2-preserved : goal.blocks-2-preserved
blocks-2-preserved c = simple_further _ _ _ c.blocks-2.invariant (omega (arith, c.blocks-2-test.true)) c.simple_lanes-count.ensures.within c.simple_lanes-count.ensures.goes

pub returns-then-count-lt-LANES : goal.returns-then-count-lt-LANES
returns-then-count-lt-LANES c = simple_further _ _ _ c.blocks-2.invariant (omega (arith, c.blocks-2-test.true)) c.simple_lanes-count.ensures.within c.simple_lanes-count.ensures.goes
