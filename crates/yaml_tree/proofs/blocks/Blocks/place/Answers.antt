use Rattle.yaml_tree.proofs.BlocksCommon.{block_read, number_in, sym}
use Rattle.yaml_tree.proofs.blocks.Blocks.place.Goals as goal

pub returns : goal.returns
returns c =
    rw (c.place.ensures, block_read c.self.view_is c.requires.0 c.index.ensures)
    (sym (number_in (λ e. e.place) c.args.self.now c.args.spot.block c.args.spot.offset c.requires.0 c.requires.1))
