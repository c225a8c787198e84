use Rattle.yaml_json.proofs.ReadNumberLemmas.{some_of, number_from}
use Rattle.yaml_json.proofs.digits.after_number.Goals as goal

pub returns : goal.returns
returns c =
    some_of _ _ c.after_exponent.result
    (λ x e. number_from c.after_minus-whole.ensures (c.in_ok-fraction.ensures {u = tt}) (c.in_ok-exponent.ensures {u = tt}) e)
    c.after_exponent.ensures
