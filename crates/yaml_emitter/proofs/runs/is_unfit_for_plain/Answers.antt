use Rattle.yaml_emitter.proofs.Answering.{ap, arith, false, has_bit, is_ascii_lowercase, not, sym, true, unfit_bits, unfit_set, ◌&&◌, ◌∙◌, ◌≡◌}
use Rattle.yaml_emitter.proofs.runs.is_unfit_for_plain.Goals as goal

pub returns-then-not-is_ascii_lowercase : goal.returns-then-not-is_ascii_lowercase
returns-then-not-is_ascii_lowercase c =
    let small : false ≡ is_ascii_lowercase c.args.byte = sym c.if-not-is_ascii_lowercase.true ∙ c.is_ascii_lowercase.ensures.value in
    c.has_bit.ensures ∙ ap (λ s. not s && has_bit unfit_set c.args.byte) small ∙ unfit_bits c.args.byte (omega arith)

pub returns-else-not-is_ascii_lowercase : goal.returns-else-not-is_ascii_lowercase
returns-else-not-is_ascii_lowercase c =
    let small : is_ascii_lowercase c.args.byte ≡ true = sym c.is_ascii_lowercase.ensures.value ∙ c.if-not-is_ascii_lowercase.false in
    ap not c.is_ascii_lowercase.ensures.value ∙ ap not small ∙ ap (λ s. not s && has_bit unfit_set c.args.byte) (sym small) ∙ unfit_bits c.args.byte (omega arith)
