use Rattle.std.proofs.Common.{arith}
use Rattle.uses.proofs.InTurn.{line_ended}
use Rattle.uses.proofs.many_documents.end_line.Goals as goal

pub returns-in-Ok-clause-text : goal.returns-in-Ok-clause-text
returns-in-Ok-clause-text c = line_ended _ _ _ c.in-Ok.ensures.bytes (c.in-Ok.ensures.ascii (omega arith))
