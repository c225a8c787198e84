use Rattle.std.specs.Str.Lossy.{utf8_valid_len}
use Rattle.yaml_encoding.proofs.Common.{ap, length, ◌∙◌, ◌≡◌}
use Rattle.yaml_encoding.proofs.ValidLemmas.{valid_some}
use Rattle.yaml_encoding.proofs.valid.valid_text.Goals as goal

pub returns-in-Some-clause-some : goal.returns-in-Some-clause-some
returns-in-Some-clause-some c = λ some low.
    let e : length c.valid.result.now ≡ utf8_valid_len c.args.input.now = ap (λ r. length r) c.valid.ensures ∙ c.in-Some.ensures.steps.3.0 ∙ ap (λ r. utf8_valid_len r) c.utf8_chunks.ensures.rest in
    rw e (valid_some c.args.input.now some low)
