use Rattle.yaml_loader.proofs.Common.{ap, as_boolean, inl, inr, sym, ◌∙◌}
use Rattle.yaml_loader.proofs.Tags.{boolean-chars, no_boolean}
use Rattle.yaml_loader.proofs.scalar.boolean_of.Goals as goal

pub returns-in_default : goal.returns-in_default
returns-in_default c =
    let t = c.args.text.now in
    let d = c.in_default in
    no_boolean t (d.not-true, (d.not-True, (d.not-TRUE, tt))) (d.not-false, (d.not-False, (d.not-FALSE, tt))) ∙ sym (boolean-chars t c.utf8.text)

pub returns-in-false : goal.returns-in-false
returns-in-false c =
    let t = c.args.text.now in
    elim c.in-false.is [ inl e ↦ sym (boolean-chars t c.utf8.text ∙ ap as_boolean e) | inr f ↦ elim f [ inl e ↦ sym (boolean-chars t c.utf8.text ∙ ap as_boolean e) | inr e ↦ sym (boolean-chars t c.utf8.text ∙ ap as_boolean e) ] ]

pub returns-in-true : goal.returns-in-true
returns-in-true c =
    let t = c.args.text.now in
    elim c.in-true.is [ inl e ↦ sym (boolean-chars t c.utf8.text ∙ ap as_boolean e) | inr f ↦ elim f [ inl e ↦ sym (boolean-chars t c.utf8.text ∙ ap as_boolean e) | inr e ↦ sym (boolean-chars t c.utf8.text ∙ ap as_boolean e) ] ]
