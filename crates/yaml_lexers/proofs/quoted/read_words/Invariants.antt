use Rattle.yaml_lexers.proofs.Common.{GoesOn, inside, ◌≤◌}
use Rattle.yaml_lexers.proofs.quoted.read_words.Given as goal

abbrev pub invariant-words : goal.invariant-words
invariant-words g l = record {
  reads : GoesOn l.fn.quote inside l.fn.window l.fn.scalar inside l.window l.scalar;
  left : l.window.left ≤ l.fn.window.left;
}

abbrev pub decreases-words : goal.decreases-words
decreases-words g l = l.window.left
