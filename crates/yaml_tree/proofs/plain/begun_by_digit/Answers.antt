use Rattle.yaml_tree.proofs.TypingCommon.{arith, false, get_or, nat_tests, ◌==◌, ◌≡◌}
use Rattle.yaml_tree.proofs.TableByFirst.{only_digits, digits_alone, digits_x, digits_o, digits_other}
use Rattle.yaml_tree.proofs.plain.begun_by_digit.Goals as goal

pub returns-in_default : goal.returns-in_default
returns-in_default c =
    let rest = rw c.as_bytes.ensures.value at c.after_digits-rest.ensures in
    rw (c.integer_or.ensures, c.number_of_digits.ensures) (digits_alone c.args.text.now c.after_digits-rest.result.now c.requires.begins rest (omega arith))

pub returns-in-120 : goal.returns-in-120
returns-in-120 c =
    let rest = rw c.as_bytes.ensures.value at c.after_digits-rest.ensures in
    rw (c.integer_or-in-120.ensures, c.number_after.ensures) (digits_x c.args.text.now c.after_digits-rest.result.now c.requires.begins rest (omega arith) c.in-120.is)

pub returns-in-111 : goal.returns-in-111
returns-in-111 c =
    let rest = rw c.as_bytes.ensures.value at c.after_digits-rest.ensures in
    rw (c.integer_or-in-111.ensures, c.number_after-in-111.ensures) (digits_o c.args.text.now c.after_digits-rest.result.now c.requires.begins rest (omega arith) c.in-111.is)

pub returns-in_default-next : goal.returns-in_default-next
returns-in_default-next c =
    let rest = rw c.as_bytes.ensures.value at c.after_digits-rest.ensures in
    let x : (120 == get_or c.after_digits-rest.result.now 0 0) ≡ false = grind (arith, nat_tests) in
    let o : (111 == get_or c.after_digits-rest.result.now 0 0) ≡ false = grind (arith, nat_tests) in
    rw (c.string_or.ensures, c.is_rest_of_decimal.ensures) (digits_other c.args.text.now c.after_digits-rest.result.now c.requires.begins rest (omega arith) x o)

pub number_of_digits-requires-clause-digits : goal.number_of_digits-requires-clause-digits
number_of_digits-requires-clause-digits c = only_digits c.args.text.now _ (rw c.as_bytes.ensures.value at c.after_digits-rest.ensures) (omega arith)
