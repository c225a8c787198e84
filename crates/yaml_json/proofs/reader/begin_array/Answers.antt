use Rattle.yaml_json.proofs.Answering.{ap, arith, array_begun, array_empty, gap_nearer, length, opened_in, ◌∷◌}
use Rattle.yaml_json.proofs.reader.begin_array.Goals as goal

pub returns-then-take : goal.returns-then-take
returns-then-take c =
    let closed = rw c.if-take.true at c.take.ensures in
    record {
      begins = λ text o. record {
        at = 91 ∷ c.args.cursor.now;
        opened = o;
        value = rw c.new.ensures (array_empty (omega arith) (rw closed at c.skip_gap.ensures));
      };
      nearer = omega (arith, gap_nearer c.skip_gap.ensures, ap length closed);
    }

pub returns : goal.returns
returns c =
    let none = rw c.if-take.false at c.take.ensures in
    record {
      begins = λ text o. opened_in c.args.opened.now.items _ text _ _ (omega arith) (c.in_ok-push_open.ensures {u = tt}) o
          (rw (c.new-2.ensures, none) (array_begun c.skip_gap.ensures));
      nearer = omega (arith, gap_nearer c.skip_gap.ensures, ap length none);
    }
