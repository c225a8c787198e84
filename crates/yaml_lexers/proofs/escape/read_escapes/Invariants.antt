use Rattle.yaml_lexers.proofs.Common.{GoesOn, inside, Shows, ◌≤◌}
use Rattle.yaml_lexers.proofs.escape.read_escapes.Given as goal

abbrev pub invariant-escapes : goal.invariant-escapes
invariant-escapes g l = record {
  reads : GoesOn l.fn.quote inside l.fn.window l.fn.scalar inside l.window l.scalar;
  here : Shows l.window 2 92;
  left : l.window.left ≤ l.fn.window.left;
}

abbrev pub decreases-escapes : goal.decreases-escapes
decreases-escapes g l = l.window.left
