use Rattle.yaml_tree.proofs.TypingCommon.{digits_value, take, ◌<◌, ◌^◌, ◌≡◌}
use Rattle.yaml_tree.proofs.plain.value_of.Given as goal

abbrev pub invariant-loop-digit : goal.invariant-loop-digit
invariant-loop-digit l = record { so_far : l.value ≡ digits_value 10 (take l.digit-index l.digits); below : l.value < 10 ^ 18 }
