use Rattle.yaml_json.proofs.TextLemmas.{cut_run, run_is}
use Rattle.yaml_json.proofs.cursor.Cursor.take_run.Goals as goal

pub split_at-requires : goal.split_at-requires
split_at-requires c = rw (c.run_length.ensures, c.as_bytes.ensures.value) (cut_run c.self.inside.rest.now)

pub returns : goal.returns
returns c =
    rw (c.split_at.ensures.front, c.split_at.ensures.back, c.run_length.ensures, c.as_bytes.ensures.value, ← c.self.view_is)
    (run_is c.self.inside.rest.now c.self.invariant)
