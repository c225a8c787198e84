use Rattle.yaml_emitter.proofs.Answering.{ap, arith, get_or, last_is, length, ◌-◌, ◌==◌, ◌∙◌}
use Rattle.yaml_emitter.proofs.Common.{chars-nil, nil_from_length, refl}
use Rattle.yaml_emitter.proofs.quoting.ends_with_space.Goals as goal

pub returns-in-len1-up : goal.returns-in-len1-up
returns-in-len1-up c =
    ap (λ x. get_or x (length x - 1) 0 == 32) c.as_bytes.ensures.value ∙ last_is c.args.text.now 32 (omega arith) c.utf8.text (omega (arith, c.as_bytes.ensures.len))

pub returns-in-empty : goal.returns-in-empty
returns-in-empty c = rw (nil_from_length c.args.text.now (omega (arith, c.as_bytes.ensures.len)), chars-nil) refl
