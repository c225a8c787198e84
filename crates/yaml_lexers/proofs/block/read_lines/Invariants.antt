use Rattle.yaml_lexers.proofs.Common.{lines_from, margin, Reads, ◌≡◌}
use Rattle.yaml_lexers.specs.ShownBlock.{at}
use Rattle.yaml_lexers.proofs.block.read_lines.Given as goal

abbrev pub invariant-lines : goal.invariant-lines
invariant-lines g l = Reads l.fn.window l.window (λ a b. lines_from l.fn.literal l.fn.column a (at margin l.fn.window l.fn.block) ≡ lines_from l.fn.literal l.fn.column b (at margin l.window l.block))

abbrev pub decreases-lines : goal.decreases-lines
decreases-lines g l = l.window.left
