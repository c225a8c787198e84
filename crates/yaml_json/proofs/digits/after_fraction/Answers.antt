use Rattle.yaml_json.proofs.Answering.{ap, arith, fraction, rest_of, some_of, ◌∙◌, ◌∷◌}
use Rattle.yaml_json.proofs.digits.after_fraction.Goals as goal

pub returns-in-46 : goal.returns-in-46
returns-in-46 c =
    let t = c.args.text.now in
    some_of _ _ c.after_some_digits.result
    (λ _ d. record { part = fraction d.digits; is = d.are; spelled = ap (λ r. 46 ∷ r) d.spelled ∙ rest_of t 46 (omega arith) (omega arith) })
    c.after_some_digits.ensures
