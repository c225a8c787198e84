use Rattle.std.proofs.Common.{take}
use Rattle.yamljson.specs.Printed.{HaveJson}
use Rattle.yamljson.proofs.run.write_lines.Given as goal

abbrev pub invariant-documents : goal.invariant-documents
invariant-documents l = HaveJson (take l.index l.documents)
