use Rattle.yaml_json.proofs.StringLemmas.{code_read}
use Rattle.yaml_json.proofs.string.read_code.Goals as goal

pub returns : goal.returns
returns c =
    let is = c.in-Some.ensures.value in
    code_read (c.in_ok-a.ensures {u = tt}).digit (c.in_ok-b.ensures {u = tt}).digit (c.in_ok-c.ensures {u = tt}).digit
    (c.in_ok-d.ensures {u = tt}).digit is.0 is.1
