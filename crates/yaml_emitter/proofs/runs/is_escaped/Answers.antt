use Rattle.yaml_emitter.proofs.Answering.{ap, arith, escaped_bits, escaped_set, false, has_bit, is_ascii_lowercase, not, sym, true, ◌&&◌, ◌∙◌, ◌≡◌}
use Rattle.yaml_emitter.proofs.runs.is_escaped.Goals as goal

pub returns-then-not-is_ascii_lowercase : goal.returns-then-not-is_ascii_lowercase
returns-then-not-is_ascii_lowercase c =
    let small : false ≡ is_ascii_lowercase c.args.byte = sym c.if-not-is_ascii_lowercase.true ∙ c.is_ascii_lowercase.ensures.value in
    c.has_bit.ensures ∙ ap (λ s. not s && has_bit escaped_set c.args.byte) small ∙ escaped_bits c.args.byte (omega arith)

pub returns-else-not-is_ascii_lowercase : goal.returns-else-not-is_ascii_lowercase
returns-else-not-is_ascii_lowercase c =
    let small : is_ascii_lowercase c.args.byte ≡ true = sym c.is_ascii_lowercase.ensures.value ∙ c.if-not-is_ascii_lowercase.false in
    ap not c.is_ascii_lowercase.ensures.value ∙ ap not small ∙ ap (λ s. not s && has_bit escaped_set c.args.byte) (sym small) ∙ escaped_bits c.args.byte (omega arith)
