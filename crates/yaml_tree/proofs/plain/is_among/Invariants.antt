use Rattle.yaml_tree.proofs.TypingCommon.{drop, is_among, map, ◌≡◌}
use Rattle.yaml_tree.proofs.plain.is_among.Given as goal

abbrev pub invariant-loop-word : goal.invariant-loop-word
invariant-loop-word l = is_among (map (λ w. w.now) l.words) l.text ≡ is_among (map (λ w. w.now) (drop l.word-index l.words)) l.text
