use Rattle.yaml_tree.proofs.IndexCommon.{get_or, length, ◌-◌, ◌<◌, ◌≤◌}
use Rattle.yaml_tree.proofs.starts.group_of.Given as goal

abbrev pub invariant-loop-low : goal.invariant-loop-low
invariant-loop-low l = record {
  apart : l.low < l.high;
  within : l.high < length l.starts;
  from : get_or l.starts l.low 0 ≤ l.rank;
  to : l.rank < get_or l.starts l.high 0;
}

abbrev pub decreases-loop-low : goal.decreases-loop-low
decreases-loop-low l = l.high - l.low
