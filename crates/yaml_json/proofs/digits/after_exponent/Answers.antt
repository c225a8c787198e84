use Rattle.yaml_json.proofs.Answering.{arith, exponent_from, false, rest_of, some_of, true}
use Rattle.yaml_json.proofs.digits.after_exponent.Goals as goal

pub returns-in-101 : goal.returns-in-101
returns-in-101 c =
    let t = c.args.text.now in
    some_of _ _ c.after_some_digits.result (λ x d. exponent_from false
    (rest_of t 101 (omega arith) (omega arith)) c.after_sign.ensures d) c.after_some_digits.ensures

pub returns-in-69 : goal.returns-in-69
returns-in-69 c =
    let t = c.args.text.now in
    some_of _ _ c.after_some_digits-in-69.result (λ x d. exponent_from true
    (rest_of t 69 (omega arith) (omega arith)) c.after_sign-in-69.ensures d) c.after_some_digits-in-69.ensures
