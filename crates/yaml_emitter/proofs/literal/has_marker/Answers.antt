use Rattle.yaml_emitter.proofs.Answering.{begins_as_marker, first_line, only_line, sym, ◌∙◌}
use Rattle.yaml_emitter.proofs.Common.{refl}
use Rattle.yaml_emitter.proofs.literal.has_marker.Goals as goal

pub returns-then-begins_as_marker : goal.returns-then-begins_as_marker
returns-then-begins_as_marker c =
    let first = first_line begins_as_marker (c.in-Some.ensures {u = tt}) in
    rw (c.lines.invariant.left, first, ← (c.if-begins_as_marker.ensures {u = tt})) refl

pub lines-preserved : goal.lines-preserved
lines-preserved c =
    let first = first_line begins_as_marker (c.in-Some.ensures {u = tt}) in
    record {
      utf8 = (c.in-Some.ensures {u = tt}).utf8;
      left = rw (c.lines.invariant.left, first, ← (c.if-begins_as_marker.ensures {u = tt})) refl;
    }

pub returns : goal.returns
returns c = c.begins_as_marker-2.ensures ∙ sym (c.lines.invariant.left ∙ only_line c.lines.rest.now c.in_default.ensures)
