use Rattle.yaml_parser.proofs.Common.{Bool, inside, IsInside, None, Parsed, parsed, RunsOn, ◌≡◌, ◌≤◌}
use Rattle.yaml_parser.proofs.parser.Parser.load_document.Given as goal

abbrev pub invariant-events : goal.invariant-events
invariant-events g l = record {
  reads : (multi : Bool) (parser : Parsed) (receiver : g.row.R.Denot) → RunsOn g.R.MarkedEventReceiver.takes multi parser receiver inside (parsed l.fn.self) l.fn.recv → RunsOn g.R.MarkedEventReceiver.takes multi parser receiver inside (parsed l.self) l.recv;
  start : l.self.start ≡ l.fn.self.start;
  left : (parsed l.self).left ≤ (parsed l.fn.self).left;
  stays : IsInside (parsed l.self);
  none : (parsed l.self).ahead ≡ None;
  clear : (parsed l.self).fault ≡ None;
}

abbrev pub decreases-events : goal.decreases-events
decreases-events g l = (parsed l.self).left
