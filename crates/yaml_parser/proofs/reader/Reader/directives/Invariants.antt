use Rattle.yaml_parser.proofs.Common.{Directing, Ev, false, KeepsInput, List, Names, Position, work, ◌≤◌}
use Rattle.yaml_parser.proofs.reader.Reader.directives.Given as goal

abbrev pub invariant-directives : goal.invariant-directives
invariant-directives g l = record {
  work : work l.self ≤ work l.fn.self;
  input : KeepsInput l.fn.self l.self;
  at : (names : Names) (given : List (Ev × Position)) → Directing l.fn.self names given false → Directing l.self names given l.versioned;
}

abbrev pub decreases-directives : goal.decreases-directives
decreases-directives g l = work l.self
