use Rattle.yaml_emitter.proofs.Answering.{false, last_line_is, refl, sym, true, writes_as, writes_ok, wrote_none, ◌∙◌}
use Rattle.yaml_emitter.proofs.literal.write_last_line.Goals as goal

pub returns-then-is_empty : goal.returns-then-is_empty
returns-then-is_empty g c =
    writes_as (last_line_is c.args.level c.args.line.now true c.utf8.line (sym c.is_empty.ensures ∙ c.if-is_empty.true))
    (writes_ok refl wrote_none)

pub returns : goal.returns
returns g c =
    writes_as (last_line_is c.args.level c.args.line.now false c.utf8.line (sym c.is_empty.ensures ∙ c.if-is_empty.false))
    c.write_line.ensures
