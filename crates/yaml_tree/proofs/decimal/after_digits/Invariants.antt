use Rattle.yaml_tree.proofs.TypingCommon.{after_all, is_ascii_digit, length, ◌≡◌}
use Rattle.yaml_tree.proofs.decimal.after_digits.Given as goal

abbrev pub invariant-loop-rest : goal.invariant-loop-rest
invariant-loop-rest l = after_all is_ascii_digit l.text ≡ after_all is_ascii_digit l.rest

abbrev pub decreases-loop-rest : goal.decreases-loop-rest
decreases-loop-rest l = length l.rest
