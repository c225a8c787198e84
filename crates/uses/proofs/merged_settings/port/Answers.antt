use Rattle.std.proofs.Common.{refl}
use Rattle.std.specs.Str.{chars}
use Rattle.uses.proofs.merged_settings.port.Goals as goal

pub read-requires : goal.read-requires
read-requires c κs = (refl, tt)

pub returns-clause-value : goal.returns-clause-value
unfolding chars
returns-clause-value c = c.read.ensures.value

pub returns-clause-err : goal.returns-clause-err
unfolding chars
returns-clause-err c = c.read.ensures.err
