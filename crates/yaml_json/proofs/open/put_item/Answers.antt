use Rattle.yaml_json.proofs.Answering.{ap, arith, gap_nearer, item_last, item_put, length, sym, was_ok, ◌∙◌}
use Rattle.yaml_json.proofs.open.put_item.Goals as goal

pub returns-then-take : goal.returns-then-take
returns-then-take c =
    let pushed = was_ok _ _ _ c.is_err.ensures.value c.if-is_err.false c.push.ensures.ok in
    let comma = rw c.if-take.true at c.take.ensures in
    record {
      puts = rw pushed (item_put (rw comma at c.skip_gap.ensures) c.skip_gap-then-take.ensures);
      nearer = omega (arith, gap_nearer c.skip_gap.ensures, gap_nearer c.skip_gap-then-take.ensures, ap length comma);
    }

pub returns-then-take-2 : goal.returns-then-take-2
returns-then-take-2 c =
    let pushed = was_ok _ _ _ c.is_err.ensures.value c.if-is_err.false c.push.ensures.ok in
    let bracket = sym (rw c.if-take.false at c.take.ensures) ∙ rw c.if-take-2.true at c.take-2.ensures in
    record {
      puts = rw pushed (item_last (rw bracket at c.skip_gap.ensures));
      nearer = omega (arith, gap_nearer c.skip_gap.ensures, ap length bracket);
    }
