use Rattle.yaml_lexers.proofs.Common.{arith, nat_tests}
use Rattle.yaml_chars.specs.Class.{is_digit}
use Rattle.model_scanner.proofs.DirectiveLemmas.{nine_digits}
use Rattle.yaml_lexers.proofs.directive.read_number.Goals as goal

pub overflow_mul-value : goal.overflow_mul-value
overflow_mul-value g c = record { fits = omega (arith, nine_digits c.digits.value c.digits.length c.digits.invariant.fits c.digits.invariant.few c.if-length-eq9.false) }

pub overflow_add-value : goal.overflow_add-value
unfolding is_digit
overflow_add-value g c = record { fits = grind (arith, nat_tests, nine_digits c.digits.value c.digits.length c.digits.invariant.fits c.digits.invariant.few c.if-length-eq9.false) }
