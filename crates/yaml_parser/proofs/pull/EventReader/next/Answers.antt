use Rattle.yaml_parser.proofs.Answering.{ap, inr, IsHeld, keeps, refl, subst, ◌∙◌, None, Some, sym, ◌≡◌, Faulted}
use Rattle.yaml_parser.proofs.pull.EventReader.next.Goals as goal

pub returns-in-Some-clause-continues : goal.returns-in-Some-clause-continues
returns-in-Some-clause-continues g c = λ es h. (refl, h, λ none. let no : None ≡ Some _ = sym none ∙ c.in-Some.is in cc)

pub returns-in-Ok-clause-continues : goal.returns-in-Ok-clause-continues
returns-in-Ok-clause-continues g c = λ es h. (c.in_default.is, c.advance.ensures.kept ∙ c.in_default.is, inr (c.in-Ok.ensures.advances es (subst (IsHeld c.args.self.now.reader es) c.in_default.is h)))

pub returns-in-Err-clause-continues : goal.returns-in-Err-clause-continues
returns-in-Err-clause-continues g c = λ es h.
    let f = c.in-Err.ensures.advances es (subst (IsHeld c.args.self.now.reader es) c.in_default.is h) in
    let x = keeps c.keep.new.self es c.advance.new.slot.fault c.keep.ensures.kept c.keep.ensures.fault (f.1, subst (λ r. Faulted r es c.advance.new.slot.fault) (sym c.keep.ensures.reader) f.2) in
    (ap (λ r. r.names.keeping) c.keep.ensures.reader ∙ f.0, x.0, λ none. x.1)
