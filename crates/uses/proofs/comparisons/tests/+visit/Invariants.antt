use Rattle.std.proofs.Common.{◌+◌, ◌*◌}
use Rattle.uses.proofs.comparisons.tests.+visit.Given as goal

abbrev pub decreases-visit : goal.decreases-visit
decreases-visit l = 2 * l.levels

abbrev pub decreases-visit_items : goal.decreases-visit_items
decreases-visit_items l = 2 * l.levels + 1

abbrev pub decreases-visit_pairs : goal.decreases-visit_pairs
decreases-visit_pairs l = 2 * l.levels + 1
