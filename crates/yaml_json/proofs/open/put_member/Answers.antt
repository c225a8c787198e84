use Rattle.yaml_json.proofs.Answering.{ap, arith, gap_nearer, key_nearer, length, member_last, member_put, sym, view, ◌∙◌}
use Rattle.yaml_json.proofs.open.put_member.Goals as goal

pub returns-then-take : goal.returns-then-take
returns-then-take c =
    let comma = rw c.if-take.true at c.take.ensures in
    let adds = rw c.replace-last.ensures.value at (c.in_ok-insert_pair.ensures {u = tt}) in
    let key = c.in_ok-next.ensures {u = tt} in
    record {
      puts = rw c.replace-last.ensures.after (member_put adds (rw comma at c.skip_gap.ensures) c.skip_gap-then-take.ensures key);
      nearer = omega (arith, gap_nearer c.skip_gap.ensures, gap_nearer c.skip_gap-then-take.ensures, ap length comma, key_nearer key);
    }

pub returns-then-take-2 : goal.returns-then-take-2
returns-then-take-2 c =
    let brace = sym (rw c.if-take.false at c.take.ensures) ∙ rw c.if-take-2.true at c.take-2.ensures in
    let adds = rw c.replace-last-then-take-2.ensures.value at (c.in_ok-insert_pair-2.ensures {u = tt}) in
    record {
      puts = member_last (view c.replace-last-then-take-2.new.dest) adds (rw brace at c.skip_gap.ensures);
      nearer = omega (arith, gap_nearer c.skip_gap.ensures, ap length brace);
    }
