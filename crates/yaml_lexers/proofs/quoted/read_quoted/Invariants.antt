use Rattle.yaml_lexers.proofs.Common.{at_part, position_of, quoted, quoted_from, Reads, ◌<◌, ◌≡◌}
use Rattle.yaml_lexers.specs.ShownQuoted.{at}
use Rattle.yaml_lexers.proofs.quoted.read_quoted.Given as goal

abbrev pub invariant-parts : goal.invariant-parts
invariant-parts g l = record {
  reads : Reads l.fn.window l.window (λ a b. quoted l.fn.single l.fn.context a (position_of l.fn.window) ≡ quoted_from l.quote.single l.quote.context l.quote.start b (at (at_part l.part) l.window l.scalar));
  less : l.window.left < l.fn.window.left;
}

abbrev pub decreases-parts : goal.decreases-parts
decreases-parts g l = l.window.left
