use Rattle.yaml_parser.proofs.Answering.{error_is, fault_met, next_read, read, seen, sym, waits_still, ◌∙◌}
use Rattle.yaml_parser.proofs.parser.Parser.look.Goals as goal

pub returns-then-is_some-clause-looks : goal.returns-then-is_some-clause-looks
returns-then-is_some-clause-looks g c = rw (← c.self.view_is) (waits_still c.self.inside c.self.invariant (sym c.is_some.ensures ∙ c.if-is_some.true))

pub returns-in_err-next-clause-looks : goal.returns-in_err-next-clause-looks
returns-in_err-next-clause-looks g c =
    rw (← c.self.view_is, error_is c.from_residual.result _ c.from_residual.ensures.1)
    (fault_met c.self.inside c.next.new.self c.in_err-next.field-0.0 c.self.invariant (sym c.is_some.ensures ∙ c.if-is_some.false) (c.in_err-next.ensures.continues (read (seen c.self.inside)) c.self.invariant.held) c.in_err-next.ensures.err c.in_err-next.ensures.again).1

pub returns-clause-looks : goal.returns-clause-looks
returns-clause-looks g c =
    rw (← c.self.view_is) (next_read c.self.inside c.next.new.self c.in_ok-next.next c.self.invariant (sym c.is_some.ensures ∙ c.if-is_some.false) (c.in_ok-next.ensures.continues (read (seen c.self.inside)) c.self.invariant.held)).1

pub invariant_of-self : goal.invariant_of-self
invariant_of-self g c =
    (fault_met c.self.inside c.next.new.self c.in_err-next.field-0.0 c.self.invariant (sym c.is_some.ensures ∙ c.if-is_some.false) (c.in_err-next.ensures.continues (read (seen c.self.inside)) c.self.invariant.held) c.in_err-next.ensures.err c.in_err-next.ensures.again).0

pub invariant_of-self-2 : goal.invariant_of-self-2
invariant_of-self-2 g c =
    (next_read c.self.inside c.next.new.self c.in_ok-next.next c.self.invariant (sym c.is_some.ensures ∙ c.if-is_some.false) (c.in_ok-next.ensures.continues (read (seen c.self.inside)) c.self.invariant.held)).0
