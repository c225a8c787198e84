use Rattle.yaml_lexers.proofs.Common.{first_indent, lines, position_of, Reads, ◌≡◌}
use Rattle.yaml_lexers.proofs.block.read_first_indent.Given as goal

abbrev pub invariant-indent : goal.invariant-indent
invariant-indent g l = record {
  reads : Reads l.fn.window l.window (λ a b. first_indent a (record { most = 0; spaces = 0; position = position_of l.fn.window; breaks = (lines l.fn.block).breaks }) ≡ first_indent b (record { most = l.most; spaces = l.spaces; position = position_of l.window; breaks = (lines l.block).breaks }));
  same : lines l.block ≡ record (lines l.fn.block) { breaks = (lines l.block).breaks };
}

abbrev pub decreases-indent : goal.decreases-indent
decreases-indent g l = l.window.left
