use Rattle.yaml_json.proofs.Answering.{has_scalar, value_nearer}
use Rattle.yaml_json.proofs.reader.begin_value.Goals as goal

pub returns : goal.returns
returns c =
    let no_brace = rw c.if-take.false at c.take.ensures in
    let no_bracket = rw c.if-take-2.false at c.take-2.ensures in
    let value = rw (no_bracket, no_brace) at (c.in_ok-value.ensures {u = tt}) in
    record { begins = λ text o. has_scalar o value; nearer = value_nearer value }
