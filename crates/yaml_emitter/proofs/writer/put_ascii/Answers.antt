use Rattle.yaml_emitter.proofs.Answering.{low_chars, writes_as}
use Rattle.yaml_emitter.proofs.writer.put_ascii.Goals as goal

pub returns : goal.returns
returns g c = writes_as (low_chars c.args.text.now c.requires) c.put.ensures
