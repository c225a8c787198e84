use Rattle.yaml_tree.proofs.BlocksCommon.{ap, arith, Entry, length, number_got, place_at, ◌∙◌}
use Rattle.yaml_tree.proofs.block.Block.place.Goals as goal

pub returns : goal.returns
returns c =
    ap (λ (e : Entry). e.place) c.index.ensures
    ∙ number_got (λ e. e.place) c.self.inside.entries.items c.args.offset c.index.result.now (omega (arith, c.requires, ap length c.self.view_is))
    ∙ ap (λ es. place_at es c.args.offset) c.self.view_is
