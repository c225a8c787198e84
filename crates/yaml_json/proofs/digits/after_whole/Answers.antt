use Rattle.yaml_json.proofs.Answering.{[], arith, digits_whole, get_or, refl, rest_of, ◌∷◌}
use Rattle.yaml_json.proofs.digits.after_whole.Goals as goal

pub returns-in-48 : goal.returns-in-48
returns-in-48 c = record { digits = 48 ∷ []; is = refl; spelled = rest_of c.args.text.now 48 (omega arith) (omega arith) }

pub returns-in-49-to-57 : goal.returns-in-49-to-57
returns-in-49-to-57 c =
    let t = c.args.text.now in
    digits_whole t _ c.after_digits.result.now (get_or t 0 0) (rest_of t (get_or t 0 0) (omega arith) refl) (omega arith) (omega arith) c.after_digits.ensures
