use Rattle.yaml_chars.proofs.Common.{arith, is_simple, slice_index, subst, sym, true, ◌∙◌, ◌≡◌}
use Rattle.yaml_chars.proofs.BlockLineLemmas.{space_is_simple}
use Rattle.yaml_chars.proofs.block_line.value_end.Goals as goal

pub text_end-requires : goal.text_end-requires
text_end-requires c = λ k h.
    let first : 0 ≡ k = omega (arith, h) in
    subst (λ i. is_simple (slice_index c.args.held.now i) ≡ true) first (space_is_simple _ (sym c.get.ensures ∙ c.if-get-ne32.false))
