use Rattle.yaml_loader.proofs.Common.{[], all_opened, ap, bad_value, last_key, opened_of, option_map, repeated_key, unwrap_or, view, ◌∙◌}
use Rattle.yaml_loader.proofs.KeyText.{repeated_at}
use Rattle.yaml_loader.proofs.reading.TreeBuilder.repeated_key.Goals as goal

pub returns-in_err-back-in-Mapping : goal.returns-in_err-back-in-Mapping
returns-in_err-back-in-Mapping c =
    let e = c.in_ok-pairs.ensures {u = tt} in
    let key = repeated_at c.deref.result.now c.in_ok-pairs.field-0.now _ (ap opened_of c.in-Mapping.is) e.item.3.0 e.item.1 in
    ap (λ o. unwrap_or (option_map (λ k. view k.now) o) bad_value) c.from_residual-in_err-back-in-Mapping.ensures ∙ ap last_key (c.in_err-back-in-Mapping.ensures {u = tt}) ∙ key.1
    ∙ ap (λ x. repeated_key (all_opened x [])) c.deref.ensures.value

pub returns-in_ok-back-in-Mapping : goal.returns-in_ok-back-in-Mapping
returns-in_ok-back-in-Mapping c =
    let e = c.in_ok-pairs.ensures {u = tt} in
    let key = repeated_at c.deref.result.now c.in_ok-pairs.field-0.now _ (ap opened_of c.in-Mapping.is) e.item.3.0 e.item.1 in
    ap last_key (c.in_ok-back-in-Mapping.ensures {u = tt}) ∙ key.1 ∙ ap (λ x. repeated_key (all_opened x [])) c.deref.ensures.value

pub returns-in-Sequence : goal.returns-in-Sequence
returns-in-Sequence c =
    let e = c.in_ok-pairs.ensures {u = tt} in
    (repeated_at c.deref.result.now c.in_ok-pairs.field-0.now _ (ap opened_of c.in-Sequence.is) e.item.3.0 e.item.1).1 ∙ ap (λ x. repeated_key (all_opened x [])) c.deref.ensures.value
