use Rattle.yaml_tree.proofs.Common.{[], IsFilled, Leads, left, lefts, source_tree, vec_len, ◌*◌, ◌+◌}
use Rattle.yaml_tree.proofs.copy.copy_row.Given as goal

abbrev pub invariant-levels : goal.invariant-levels
invariant-levels l = record {
  leads : Leads (source_tree l.fn.source) l.open.items (source_tree l.level.source);
  filled : IsFilled l.level [];
}

abbrev pub decreases-levels : goal.decreases-levels
decreases-levels l = 2 * (left l.level + lefts l.open.items) + vec_len l.open
