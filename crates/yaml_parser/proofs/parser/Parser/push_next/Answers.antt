use Rattle.yaml_parser.proofs.Answering.{advanced, ap, inl, inr, not_closed, parsed, refl, stopped}
use Rattle.yaml_parser.proofs.parser.Parser.push_next.Goals as goal

pub advance-requires : goal.advance-requires
advance-requires g c = not_closed c.self.inside (ap parsed c.self.view_is) c.self.invariant c.requires.none c.requires.clear c.requires.inside.0

pub invariant_of-self : goal.invariant_of-self
invariant_of-self g c =
    (advanced c.self.inside c.advance.new.self c.advance.new.slot.next c.push.new.self (ap parsed c.self.view_is) c.self.invariant c.requires.none c.requires.clear c.in-Ok.ensures.advances c.advance.ensures.kept c.push.ensures).0

pub invariant_of-self-in-Ok : goal.invariant_of-self-in-Ok
invariant_of-self-in-Ok g c =
    (advanced c.self.inside c.advance.new.self c.advance.new.slot.next c.push.new.self (ap parsed c.self.view_is) c.self.invariant c.requires.none c.requires.clear c.in-Ok.ensures.advances c.advance.ensures.kept c.push.ensures).0

pub returns-in-Err-on_event-clause-pushes : goal.returns-in-Err-on_event-clause-pushes
returns-in-Err-on_event-clause-pushes g c =
    let gives = (advanced c.self.inside c.advance.new.self c.advance.new.slot.next c.push.new.self (ap parsed c.self.view_is) c.self.invariant c.requires.none c.requires.clear c.in-Ok.ensures.advances c.advance.ensures.kept c.push.ensures).1 in
    inr (_, _, gives, rw c.replace-event.ensures.value at c.in-Err-on_event.ensures)

pub returns-in_default-clause-pushes : goal.returns-in_default-clause-pushes
returns-in_default-clause-pushes g c =
    let gives = (advanced c.self.inside c.advance.new.self c.advance.new.slot.next c.push.new.self (ap parsed c.self.view_is) c.self.invariant c.requires.none c.requires.clear c.in-Ok.ensures.advances c.advance.ensures.kept c.push.ensures).1 in
    (_, _, gives, rw c.replace-event.ensures.value at c.in_default.ensures, c.is_document_end-last.ensures)

pub returns-in-Err-clause-pushes : goal.returns-in-Err-clause-pushes
returns-in-Err-clause-pushes g c =
    inl ((stopped c.self.inside c.advance.new.self c.keep.new.self c.advance.new.slot.fault c.keep.result (ap parsed c.self.view_is) c.self.invariant c.requires.none c.requires.clear c.in-Err.ensures.advances c.keep.ensures.kept c.keep.ensures.fault c.keep.ensures.reader).1, refl)

pub invariant_of-self-in-Err : goal.invariant_of-self-in-Err
invariant_of-self-in-Err g c =
    (stopped c.self.inside c.advance.new.self c.keep.new.self c.advance.new.slot.fault c.keep.result (ap parsed c.self.view_is) c.self.invariant c.requires.none c.requires.clear c.in-Err.ensures.advances c.keep.ensures.kept c.keep.ensures.fault c.keep.ensures.reader).0
