use Rattle.yaml_lexers.proofs.Common.{at, HasChar, plain, plain_from, position_of, Reads, ◌<◌, ◌≡◌}
use Rattle.model_scanner.specs.Plain.{first}
use Rattle.yaml_lexers.proofs.plain.read_plain.Given as goal

abbrev pub invariant-lines : goal.invariant-lines
invariant-lines g l = record {
  reads : Reads l.fn.window l.window (λ a b. plain l.fn.context a (position_of l.fn.window) ≡ plain_from l.fn.context l.start b (at first l.window l.scalar));
  has : HasChar l.window;
  ahead : 0 < l.window.ahead;
}

abbrev pub decreases-lines : goal.decreases-lines
decreases-lines g l = l.window.left
