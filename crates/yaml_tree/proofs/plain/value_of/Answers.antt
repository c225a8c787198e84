use Rattle.std.proofs.lemmas.Str.Parse.{digits_value-take-le}
use Rattle.yaml_tree.proofs.TypingCommon.{arith, ◌+◌}
use Rattle.yaml_tree.proofs.TableByFirst.{one_digit, one_more}
use Rattle.yaml_tree.proofs.plain.value_of.Goals as goal

pub overflow_sub-value : goal.overflow_sub-value
overflow_sub-value c = let h = one_digit c.args.digits.now c.loop-digit.digit-index c.requires.digits (omega arith) in omega arith

pub loop-digit-preserved : goal.loop-digit-preserved
loop-digit-preserved c =
    let more = one_more c.args.digits.now c.loop-digit.digit-index c.requires.digits (omega arith) in
    record { so_far = omega arith; below = omega (arith, digits_value-take-le 10 c.args.digits.now (c.loop-digit.digit-index + 1) (omega arith), c.requires.below) }
