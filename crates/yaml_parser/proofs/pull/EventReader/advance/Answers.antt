use Rattle.yaml_parser.proofs.Answering.{Advances, answered, error_is, failed, subst, sym, pulled}
use Rattle.yaml_parser.proofs.pull.EventReader.advance.Goals as goal

pub returns-clause-advances : goal.returns-clause-advances
returns-clause-advances g c = λ es h.
    let x = c.in_ok-next.ensures in
    pulled c.args.self.now.reader c.next.new.self x.state x.below es c.next.new.slot c.note.new.self x.top h x.answers x.bounds c.note.ensures

pub returns-in_err-next-clause-advances : goal.returns-in_err-next-clause-advances
returns-in_err-next-clause-advances g c = λ es h.
    let x = c.in_err-next.ensures in
    let failing = failed c.args.self.now.reader c.next.new.self x.state x.below es c.next.new.slot.fault x.top h x.answers.so in
    subst (λ r. Advances c.args.self.now es (answered r c.next.new.slot) (record (c.args.self.now) { reader = c.next.new.self })) (sym (error_is c.from_residual.result _ c.from_residual.ensures.1)) (c.next.ensures.bounds.input.keeping, failing.0, failing.1)
