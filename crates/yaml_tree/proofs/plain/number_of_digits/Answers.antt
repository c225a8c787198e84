use Rattle.std.proofs.lemmas.Int.{ints, to_z_pos}
use Rattle.yaml_tree.proofs.TypingCommon.{ap, arith, digits_value, pos, Some, ◌<◌, ◌^◌, ◌∙◌, ◌≡◌}
use Rattle.std.proofs.lemmas.Str.Parse.{digits_value_short}
use mir.Syntax.{w64}
use Rattle.yaml_tree.proofs.TableByFirst.{number_of_digits, own}
use Rattle.yaml_tree.proofs.plain.number_of_digits.Goals as goal

pub value_of-requires-clause-below : goal.value_of-requires-clause-below
value_of-requires-clause-below c = rw c.as_bytes.ensures.value (digits_value_short own c.args.text.now 18 c.requires.digits (omega arith))

pub overflow_cast-result : goal.overflow_cast-result
overflow_cast-result c =
    let small = digits_value_short own c.args.text.now 18 c.requires.digits (omega arith) in
    let value : c.value_of.result ≡ digits_value 10 c.args.text.now = c.value_of.ensures ∙ ap (digits_value 10) c.as_bytes.ensures.value in
    let below : c.value_of.result < 10 ^ 18 = rw value small in
    omega (arith, ints)

pub returns-then-text-le18 : goal.returns-then-text-le18
returns-then-text-le18 c =
    let small = digits_value_short own c.args.text.now 18 c.requires.digits (omega arith) in
    let value : c.value_of.result ≡ digits_value 10 c.args.text.now = c.value_of.ensures ∙ ap (digits_value 10) c.as_bytes.ensures.value in
    let below : c.value_of.result < 10 ^ 18 = rw value small in
    ap Some (to_z_pos w64 c.value_of.result (omega arith)) ∙ ap (λ n. Some (pos n)) value ∙ number_of_digits c.args.text.now c.requires.begins c.requires.digits small
