use Rattle.yaml_json.proofs.Answering.{cut_first, IsAsciiFirst, skipped, subst, sym, ◌∙◌}
use Rattle.yaml_json.proofs.cursor.Cursor.skip.Goals as goal

pub split_at-requires : goal.split_at-requires
split_at-requires c = cut_first c.self.inside.rest.now c.self.invariant (subst IsAsciiFirst (sym c.self.view_is) c.requires)

pub returns : goal.returns
returns c first rest is =
    skipped c.self.inside.rest.now c.split_at.result.1.now c.self.invariant (subst IsAsciiFirst (sym c.self.view_is) c.requires) c.split_at.ensures.back first rest (c.self.view_is ∙ is)
