use Rattle.yaml_parser.proofs.Answering.{arith, end_is_not, false, goes_on, inside_run, is_document_end, last_run, no_end, push_stops, stays_inside, sym, true, ◌∙◌, ◌≡◌}
use Rattle.yaml_parser.proofs.parser.Parser.load_document.Goals as goal

pub events-smaller : goal.events-smaller
events-smaller g c = let x = c.in-Ok.ensures.pushes in x.2.left (end_is_not x.0 (no_end c.events.invariant.stays x.2))

pub events-preserved : goal.events-preserved
events-preserved g c =
    let x = c.in-Ok.ensures.pushes in
    let last : is_document_end x.0 ≡ false = sym x.4 ∙ c.if-last.false in
    let less = x.2.left (end_is_not x.0 (no_end c.events.invariant.stays x.2)) in
    record {
      reads = λ multi parser receiver h. goes_on (c.events.invariant.reads multi parser receiver h) (λ rest. inside_run x.0 x.1 multi rest last) x.2 x.3;
      start = cc;
      left = omega (arith, less, c.events.invariant.left);
      stays = stays_inside c.events.invariant.stays x.2 last;
      none = x.2.ahead;
      clear = x.2.sound.fault;
    }

pub returns-then-last : goal.returns-then-last
returns-then-last g c =
    let x = c.in-Ok.ensures.pushes in
    let last : is_document_end x.0 ≡ true = sym x.4 ∙ c.if-last.true in
    let less = x.2.left (end_is_not x.0 (no_end c.events.invariant.stays x.2)) in
    record {
      reads = λ multi parser receiver h. (goes_on (c.events.invariant.reads multi parser receiver h) (λ rest. last_run x.0 x.1 multi rest last) x.2 x.3, x.2.sound.fault);
      start = cc;
      left = omega (arith, less, c.events.invariant.left);
    }

pub returns-in-Err-clause-reads : goal.returns-in-Err-clause-reads
returns-in-Err-clause-reads g c = λ multi parser receiver h. push_stops (c.events.invariant.reads multi parser receiver h) c.in-Err.ensures.pushes
