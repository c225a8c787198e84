use Rattle.yaml_lexers.proofs.Common.{ap, arith, digit_turn, Reads, Reads-then, sym, ◌-◌, ◌∙◌, ◌∷◌, ◌≡◌}
use Rattle.yaml_lexers.proofs.EscapeLemmas.{one_fewer, seven_digits, one_more_fits}
use Rattle.yaml_lexers.proofs.escape.read_code.Goals as goal

pub overflow_mul-code : goal.overflow_mul-code
overflow_mul-code g c = record { fits = omega (arith, seven_digits c.digits.code c.digits.left c.digits.invariant.fits c.digits-test.true) }

pub overflow_add-code : goal.overflow_add-code
overflow_add-code g c = record { fits = omega (arith, seven_digits c.digits.code c.digits.left c.digits.invariant.fits c.digits-test.true) }

pub digits-preserved : goal.digits-preserved
digits-preserved g c =
    let turn : Reads c.digits.window c.skip.new.self (λ a b. a ≡ c.look_ch-c.result ∷ b) =
    Reads-then _ _ _ c.look_ch-c.ensures.reads c.skip.ensures.reads (λ a b d look s. sym look.0 ∙ s ∙ ap (λ x. x ∷ d) (sym look.1)) in
    let was = c.look_ch-c.ensures.position in
    record {
      reads = Reads-then _ _ _ c.digits.invariant.reads turn (λ a b d e f.
          e ∙ one_fewer _ _ _ c.digits.left c.digits.code b _ _ c.digits-test.true
          ∙ rw (c.hex_value.ensures.value, c.skip.ensures.state, was.at, was.line, was.col)
          (digit_turn _ _ _ (c.digits.left - 1) c.digits.code c.look_ch-c.result b d _ _ (sym c.is_hex.ensures.value ∙ c.if-not-is_hex.false) f));
      few = omega (arith, c.digits.invariant.few);
      fits = one_more_fits c.digits.code _ c.digits.left c.digits.invariant.fits c.digits-test.true c.digits.invariant.few c.hex_value.ensures.small;
    }
