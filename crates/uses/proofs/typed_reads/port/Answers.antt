use Rattle.std.proofs.Common.{refl}
use Rattle.std.specs.Str.{chars}
use Rattle.uses.proofs.typed_reads.port.Goals as goal

pub read_or-requires : goal.read_or-requires
read_or-requires c κs = (refl, tt)

pub returns-clause-value : goal.returns-clause-value
unfolding chars
returns-clause-value c = c.read_or.ensures.value

pub returns-clause-err : goal.returns-clause-err
unfolding chars
returns-clause-err c = c.read_or.ensures.err
