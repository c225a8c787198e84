use Rattle.yaml_json.proofs.Common.{refl, stopped_early, writes_err, writes_late}
use Rattle.yaml_json.proofs.white.begin_entry.Goals as goal

pub returns-in_err-put_ascii : goal.returns-in_err-put_ascii
returns-in_err-put_ascii g c =
    rw c.if-is_first.false (writes_err c.from_residual.ensures.0 (stopped_early _ (c.in_err-put_ascii.ensures.err refl)))

pub returns : goal.returns
returns g c = rw c.if-is_first.false (writes_late (c.in_ok-put_ascii.ensures.ok refl) c.new_line-2.ensures)
