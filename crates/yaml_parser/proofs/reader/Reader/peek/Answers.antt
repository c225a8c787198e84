use Rattle.yaml_parser.proofs.Answering.{reads, if_some_at, look_fails, looks_on, refl, Some, ◌≡◌}
use Rattle.yaml_parser.proofs.reader.Reader.peek.Goals as goal

pub returns-in-Ok-clause-at : goal.returns-in-Ok-clause-at
returns-in-Ok-clause-at g c = λ goal o names given a. looks_on c.peek.ensures.taken (λ t h. if_some_at (λ u. c.peek.new.self.peeked ≡ Some u) c.peek.ensures.same h) c.peek.ensures.handed c.in-Ok.ensures.awake refl refl o a

pub returns-in-Ok-clause-on : goal.returns-in-Ok-clause-on
returns-in-Ok-clause-on g c = λ goal o final result slot f. reads (λ names given a. f.so names given (looks_on c.peek.ensures.taken (λ t h. if_some_at (λ u. c.peek.new.self.peeked ≡ Some u) c.peek.ensures.same h) c.peek.ensures.handed c.in-Ok.ensures.awake refl refl o a))

pub returns-in-Err-clause-stops : goal.returns-in-Err-clause-stops
returns-in-Err-clause-stops g c =
    look_fails c.args.self.now _ c.peek.ensures.taken (λ t h. if_some_at (λ u. c.peek.new.self.peeked ≡ Some u) c.peek.ensures.same h) c.in-Err.ensures.none c.peek.ensures.handed refl c.halt.ensures c.in-Err.ensures.err
