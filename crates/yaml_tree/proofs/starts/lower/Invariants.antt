use Rattle.yaml_tree.proofs.IndexCommon.{AreApart}
use Rattle.yaml_tree.proofs.starts.lower.Given as goal

abbrev pub invariant-loop-i : goal.invariant-loop-i
invariant-loop-i l = AreApart (λ _. 1) l.first l.i l.starts l.initial.starts
