use Rattle.yaml_json.proofs.Answering.{number_cut}
use Rattle.yaml_json.proofs.cursor.Cursor.take_number.Goals as goal

pub split_at-requires : goal.split_at-requires
split_at-requires c =
    let part = rw c.as_bytes-bytes.ensures.value at (c.in_ok-after.ensures {u = tt}) in
    rw c.as_bytes-bytes.ensures.value (number_cut c.self.inside.rest.now c.in_ok-after.after.now c.self.invariant part).boundary

pub returns : goal.returns
returns c =
    let part = rw c.as_bytes-bytes.ensures.value at (c.in_ok-after.ensures {u = tt}) in
    rw (c.split_at.ensures.front, c.split_at.ensures.back, c.as_bytes-bytes.ensures.value, ← c.self.view_is)
    (number_cut c.self.inside.rest.now c.in_ok-after.after.now c.self.invariant part).is_number
