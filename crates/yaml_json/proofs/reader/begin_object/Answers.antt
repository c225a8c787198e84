use Rattle.yaml_json.proofs.Answering.{ap, arith, gap_nearer, key_nearer, length, object_begun, object_empty, opened_in, ◌∷◌}
use Rattle.yaml_json.proofs.reader.begin_object.Goals as goal

pub returns-then-take : goal.returns-then-take
returns-then-take c =
    let closed = rw c.if-take.true at c.take.ensures in
    record {
      begins = λ text o. record {
        at = 123 ∷ c.args.cursor.now;
        opened = o;
        value = rw c.new.ensures (object_empty (omega arith) (rw closed at c.skip_gap.ensures));
      };
      nearer = omega (arith, gap_nearer c.skip_gap.ensures, ap length closed);
    }

pub returns : goal.returns
returns c =
    let none = rw c.if-take.false at c.take.ensures in
    let key = c.in_ok-key.ensures {u = tt} in
    record {
      begins = λ text o. opened_in c.args.opened.now.items _ text _ _ (omega arith) (c.in_ok-push_open.ensures {u = tt}) o (record {
        at = c.take.new.self;
        before = rw (c.new-2.ensures, none) (object_begun c.skip_gap.ensures);
        key_is = key;
      });
      nearer = omega (arith, gap_nearer c.skip_gap.ensures, ap length none, key_nearer key);
    }
