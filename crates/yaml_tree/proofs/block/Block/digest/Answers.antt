use Rattle.yaml_tree.proofs.BlocksCommon.{ap, arith, digest_at, Entry, length, number_got, ◌∙◌}
use Rattle.yaml_tree.proofs.block.Block.digest.Goals as goal

pub returns : goal.returns
returns c =
    ap (λ (e : Entry). e.digest) c.index.ensures
    ∙ number_got (λ e. e.digest) c.self.inside.entries.items c.args.offset c.index.result.now (omega (arith, c.requires, ap length c.self.view_is))
    ∙ ap (λ es. digest_at es c.args.offset) c.self.view_is
