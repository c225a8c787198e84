use Rattle.yaml_lexers.proofs.Common.{Bool, line, lines_from, Reads, ℕ, ◌≡◌}
use Rattle.yaml_lexers.specs.ShownBlock.{at}
use Rattle.yaml_lexers.proofs.block.read_line.Given as goal

abbrev pub invariant-line : goal.invariant-line
invariant-line g l = Reads l.fn.window l.window (λ a b. (literal : Bool) (column : ℕ) → lines_from literal column a (at line l.fn.window l.fn.block) ≡ lines_from literal column b (at line l.window l.block))

abbrev pub decreases-line : goal.decreases-line
decreases-line g l = l.window.left
