use Rattle.yaml_json.proofs.Answering.{ap, chars, first_is, get_or, IsFirst, refl, subst, ◌∙◌}
use Rattle.yaml_json.proofs.cursor.Cursor.peek.Goals as goal

pub returns-in-len1-up : goal.returns-in-len1-up
returns-in-len1-up c some low =
    let bs = c.as_bytes.result.now in
    subst (IsFirst (get_or bs 0 0)) (ap chars c.as_bytes.ensures.value ∙ c.self.view_is) (first_is bs (get_or bs 0 0) c.as_bytes.ensures.utf8 c.in-len1-up.len_at_least refl low)
