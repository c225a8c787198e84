use Rattle.yaml_lexers.proofs.Common.{Bool, indent_from, lines, lines_from, margin, position_of, Reads, ◌≡◌}
use Rattle.yaml_lexers.specs.ShownBlock.{at}
use Rattle.yaml_lexers.proofs.block.read_indent.Given as goal

abbrev pub invariant-indent : goal.invariant-indent
invariant-indent g l = record {
  reads : Reads l.fn.window l.window (λ a b.
      (indent_from l.fn.column a (record { position = position_of l.fn.window; breaks = (lines l.fn.block).breaks }) ≡ indent_from l.fn.column b (record { position = position_of l.window; breaks = (lines l.block).breaks }))
      × ((literal : Bool) → lines_from literal l.fn.column a (at margin l.fn.window l.fn.block) ≡ lines_from literal l.fn.column b (at margin l.window l.block)));
  same : lines l.block ≡ record (lines l.fn.block) { breaks = (lines l.block).breaks };
}

abbrev pub decreases-indent : goal.decreases-indent
decreases-indent g l = l.window.left
