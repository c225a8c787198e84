use Rattle.yaml_tree.proofs.IndexCommon.{AreApart, head_length}
use Rattle.yaml_tree.proofs.starts.add_blocks.Given as goal

abbrev pub invariant-loop-i : goal.invariant-loop-i
invariant-loop-i l = AreApart (head_length l.blocks) l.first l.i l.initial.starts l.starts
