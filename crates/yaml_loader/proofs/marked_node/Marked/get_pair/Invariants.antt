use Rattle.yaml_loader.proofs.Common.{chars, marks_of, pair_at_text, pair_with, pairs_left, string, ◌≡◌}
use Rattle.yaml_loader.specs.MarkedNode.{tree_of}
use Rattle.yaml_loader.proofs.marked_node.Marked.get_pair.Given as goal

abbrev pub invariant-pairs : goal.invariant-pairs
invariant-pairs l = pair_at_text (chars l.key) (tree_of l.self) (marks_of l.self) ≡ pair_with (string (chars l.key)) (pairs_left l.name-iterator)
