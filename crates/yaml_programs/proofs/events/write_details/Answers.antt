use Rattle.std.proofs.lemmas.Result.{on_ok_weaker}
use Rattle.defs_text.specs.Text.{string_chars}
use Rattle.yaml_programs.proofs.AppendsLemmas.{appends_then}
use Rattle.yaml_programs.proofs.events.write_details.Goals as goal

pub returns-in_ok-write_properties-in-Scalar : goal.returns-in_ok-write_properties-in-Scalar
unfolding string_chars
returns-in_ok-write_properties-in-Scalar g c =
    let held = g.W.Write.contents in
    rw (c.in-Scalar.is) (on_ok_weaker c.write_scalar.result
    (λ scalar. appends_then (held c.args.out.now) (held c.write_properties.new.out) (held c.write_scalar.new.out) _ _ (c.in_ok-write_properties-in-Scalar.ensures {u = tt}) (rw (← c.as_str.ensures.value) scalar)) c.write_scalar.ensures)
