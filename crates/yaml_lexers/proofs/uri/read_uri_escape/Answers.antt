use Rattle.yaml_lexers.proofs.Common.{arith, Reads-then, ◌<◌, ◌∙◌, ◌≤◌}
use Rattle.yaml_lexers.proofs.UriLemmas.{bits_fit, more_bits_fit, trail_read}
use Rattle.yaml_lexers.proofs.uri.read_uri_escape.Goals as goal

pub overflow_mul-code : goal.overflow_mul-code
overflow_mul-code g c = record { fits = omega (arith, bits_fit c.trails.code c.trails.left c.trails.invariant.small c.trails-test.true) }

pub overflow_add-code : goal.overflow_add-code
overflow_add-code g c = record { fits = omega (arith, bits_fit c.trails.code c.trails.left c.trails.invariant.small c.trails-test.true) }

pub trails-preserved : goal.trails-preserved
trails-preserved g c =
    let low : 128 ≤ c.in_ok-octet-2.octet = omega arith in
    let high : c.in_ok-octet-2.octet < 192 = omega arith in
    record {
      reads = Reads-then _ _ _ c.trails.invariant.reads c.in_ok-octet-2.ensures.ok (λ a b d e f test t.
          e test t ∙ trail_read test c.args.start c.trails.left c.trails.code _ _ b d _ _ t c.trails-test.true low high (λ o. f test o t));
      small = more_bits_fit c.trails.code _ c.trails.left c.trails.invariant.small c.trails-test.true (omega arith);
      less = omega (arith, c.in_ok-octet-2.ensures.less);
    }
