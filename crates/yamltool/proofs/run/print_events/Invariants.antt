use Rattle.yaml_parser.specs.Parsed.{parsed}
use Rattle.yamltool.proofs.run.print_events.Given as goal

abbrev pub decreases-events : goal.decreases-events
decreases-events g l = (parsed l.parser).left
