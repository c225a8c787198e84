use Rattle.yaml_chars.proofs.WordsLemmas.{words_further, blocks_ascii}
use Rattle.yaml_chars.proofs.run.Run.blocks.Goals as goal

pub blocks-2-preserved : goal.blocks-2-preserved
blocks-2-preserved c = (words_further _ _ _ _ c.blocks-2.invariant.0 c.lanes-count.ensures.words, blocks_ascii _ _ _ _ _ c.blocks-2.invariant.1 c.has_beyond-beyond.ensures c.lanes-count.ensures.within)

pub returns-then-count-lt-LANES-clause-ascii : goal.returns-then-count-lt-LANES-clause-ascii
returns-then-count-lt-LANES-clause-ascii c = blocks_ascii _ _ _ _ _ c.blocks-2.invariant.1 c.has_beyond-beyond.ensures c.lanes-count.ensures.within
