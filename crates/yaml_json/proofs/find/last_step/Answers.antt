use Rattle.std.specs.Str.{chars}
use Rattle.yaml_json.proofs.Answering.{no_step, string_chars}
use Rattle.yaml_json.proofs.find.last_step.Goals as goal

pub returns-in-None : goal.returns-in-None
unfolding string_chars chars
returns-in-None c =
    rw (c.new.ensures.bytes, c.if-not-level.false, no_step c.args.level.row.now _ _ c.saturating_sub-2.ensures c.in-None.ensures.lookup.3)
