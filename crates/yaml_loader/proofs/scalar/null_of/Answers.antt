use Rattle.yaml_loader.proofs.Common.{ap, as_null, inl, inr, sym, ◌∙◌}
use Rattle.yaml_loader.proofs.Tags.{null-chars, no_null}
use Rattle.yaml_loader.proofs.scalar.null_of.Goals as goal

pub returns-in_default : goal.returns-in_default
returns-in_default c =
    let t = c.args.text.now in
    no_null t (c.in_default.not-text, (c.in_default.not-null, tt)) ∙ sym (null-chars t c.utf8.text)

pub returns-in-text : goal.returns-in-text
returns-in-text c =
    let t = c.args.text.now in
    elim c.in-text.is [ inl e ↦ sym (null-chars t c.utf8.text ∙ ap as_null e) | inr e ↦ sym (null-chars t c.utf8.text ∙ ap as_null e) ]
