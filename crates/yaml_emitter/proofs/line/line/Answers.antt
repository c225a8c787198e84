use Rattle.yaml_emitter.proofs.LineLemmas.{line_boundary}
use Rattle.yaml_emitter.proofs.line.line.Goals as goal

pub split_at-requires : goal.split_at-requires
split_at-requires c = line_boundary c.args.count c.requires
