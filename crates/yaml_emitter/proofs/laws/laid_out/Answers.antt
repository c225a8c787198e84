use Rattle.yaml_emitter.proofs.laws.laid_out.Goals as goal

pub returns : goal.returns
returns c = c.dumps_are_laid_out.ensures c.args.compact c.args.multiline _ c.look.ensures.0 c.look.ensures.1
