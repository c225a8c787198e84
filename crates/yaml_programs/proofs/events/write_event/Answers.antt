use Rattle.std.proofs.lemmas.Result.{on_ok_weaker}
use Rattle.yaml_programs.proofs.AppendsLemmas.{appends_then}
use Rattle.yaml_programs.proofs.events.write_event.Goals as goal

pub returns : goal.returns
returns g c =
    let held = g.W.Write.contents in
    let begun = appends_then (held c.args.out.now) (held c.write_head.new.out) (held c.write_details.new.out) _ _ (c.in_ok-write_head.ensures {u = tt}) (c.in_ok-write_details.ensures {u = tt}) in
    on_ok_weaker c.writeln.result (λ line_feed. appends_then (held c.args.out.now) (held c.write_details.new.out) (held c.writeln.new.self) _ _ begun line_feed) c.writeln.ensures.bytes
