use Rattle.yaml_json.proofs.Answering.{chars, IsGap, json_text, subst, true, view}
use Rattle.yaml_json.proofs.text.read_json.Goals as goal

pub returns-in-Ok : goal.returns-in-Ok
returns-in-Ok c =
    json_text (view c.in-Ok.tree) (chars c.args.text.now) c.skip_first_gap.new.self (subst (λ x. IsGap true x c.skip_first_gap.new.self) c.new-cursor.ensures c.skip_first_gap.ensures) c.in-Ok.ensures
