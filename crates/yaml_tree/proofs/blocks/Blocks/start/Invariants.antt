use Rattle.yaml_tree.proofs.IndexCommon.{start, ◌≡◌}
use Rattle.yaml_tree.proofs.blocks.Blocks.start.Given as goal

abbrev pub invariant-loop-i : goal.invariant-loop-i
invariant-loop-i l = l.count ≡ start l.self l.i
