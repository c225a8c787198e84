use Rattle.yaml_loader.proofs.Common.{IsGoing, parsed, ◌≡◌}
use Rattle.yaml_loader.specs.OneDocument.{Goes}
use Rattle.yaml_loader.proofs.one_document.take_document.Given as goal

abbrev pub invariant-events : goal.invariant-events
invariant-events g l = record {
  goes : IsGoing (parsed l.fn.parser) → Goes g.R.MarkedEventReceiver.takes (parsed l.fn.parser) l.fn.receiver (parsed l.parser) l.receiver;
  start : l.parser.start ≡ l.fn.parser.start;
}

abbrev pub decreases-events : goal.decreases-events
decreases-events g l = (parsed l.parser).left
