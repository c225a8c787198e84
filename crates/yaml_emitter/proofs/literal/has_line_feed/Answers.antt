use Rattle.yaml_emitter.proofs.Answering.{feed_by, ◌∙◌}
use Rattle.yaml_emitter.proofs.literal.has_line_feed.Goals as goal

pub returns : goal.returns
returns c = c.is_some.ensures ∙ feed_by c.args.text.now c.first_cut.result c.first_cut.ensures
