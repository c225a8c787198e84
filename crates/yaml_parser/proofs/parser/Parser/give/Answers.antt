use Rattle.yaml_parser.proofs.Answering.{event_given, sym, ◌∙◌}
use Rattle.yaml_parser.proofs.parser.Parser.give.Goals as goal

pub invariant_of-self : goal.invariant_of-self
invariant_of-self g c =
    rw c.take.ensures.after (event_given c.self.inside c.in-Some.next c.push.new.self c.self.invariant (sym c.take.ensures.value ∙ c.in-Some.is) c.push.ensures).0

pub returns-clause-gives : goal.returns-clause-gives
returns-clause-gives g c =
    let gives = (event_given c.self.inside c.in-Some.next c.push.new.self c.self.invariant (sym c.take.ensures.value ∙ c.in-Some.is) c.push.ensures).1 in
    rw (← c.self.view_is, c.take.ensures.after) (gives.waited, gives)
