use Rattle.yaml_parser.proofs.Answering.{fault_met, given_at_once, none_waits, read, seen}
use Rattle.yaml_parser.proofs.parser.Parser.pull_next.Goals as goal

pub returns-in-Ok-clause-pulls : goal.returns-in-Ok-clause-pulls
returns-in-Ok-clause-pulls g c =
    let i = c.self.inside in
    let none = none_waits i.current (rw (← c.self.view_is) at c.requires) in
    let x = rw c.in-Ok.is at (c.next-next.ensures.continues (read (seen i)) c.self.invariant.held) in
    rw (← c.self.view_is, c.in-Ok.is) (given_at_once i c.next-next.new.self c.in-Ok.event c.push.new.self c.self.invariant none x c.push.ensures).1

pub returns-in_default-clause-pulls : goal.returns-in_default-clause-pulls
returns-in_default-clause-pulls g c =
    let i = c.self.inside in
    let none = none_waits i.current (rw (← c.self.view_is) at c.requires) in
    let x = rw c.in_default.is at (c.next-next.ensures.continues (read (seen i)) c.self.invariant.held) in
    let kept = rw c.in_default.is at c.next-next.ensures.err in
    let again = rw c.in_default.is at c.next-next.ensures.again in
    rw (← c.self.view_is, c.in_default.is) (fault_met i c.next-next.new.self c.in_default.field-0 c.self.invariant none x kept again).1

pub invariant_of-self : goal.invariant_of-self
invariant_of-self g c =
    let i = c.self.inside in
    let none = none_waits i.current (rw (← c.self.view_is) at c.requires) in
    let x = rw c.in-Ok.is at (c.next-next.ensures.continues (read (seen i)) c.self.invariant.held) in
    (given_at_once i c.next-next.new.self c.in-Ok.event c.push.new.self c.self.invariant none x c.push.ensures).0

pub invariant_of-self-in_default : goal.invariant_of-self-in_default
invariant_of-self-in_default g c =
    let i = c.self.inside in
    let none = none_waits i.current (rw (← c.self.view_is) at c.requires) in
    let x = rw c.in_default.is at (c.next-next.ensures.continues (read (seen i)) c.self.invariant.held) in
    let kept = rw c.in_default.is at c.next-next.ensures.err in
    let again = rw c.in_default.is at c.next-next.ensures.again in
    (fault_met i c.next-next.new.self c.in_default.field-0 c.self.invariant none x kept again).0
