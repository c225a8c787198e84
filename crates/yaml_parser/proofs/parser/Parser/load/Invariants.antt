use Rattle.yaml_parser.proofs.Common.{between, parsed, RunsOn, ◌≡◌}
use Rattle.yaml_parser.proofs.parser.Parser.load.Given as goal

abbrev pub invariant-documents : goal.invariant-documents
invariant-documents g l = RunsOn g.R.MarkedEventReceiver.takes l.multi (parsed l.fn.self) l.fn.recv between (parsed l.self) l.recv × (l.self.start ≡ l.fn.self.start)

abbrev pub decreases-documents : goal.decreases-documents
decreases-documents g l = (parsed l.self).left
