use Rattle.std.proofs.Common.{◌≡◌, ◌<◌, ◌≤◌, length, subst, arith}
use Rattle.std.specs.Prelude.{◌^◌}
use Rattle.yaml_rust2.specs.Digits.{binary_digits}
use Rattle.uses.proofs.comparisons.keys_compared.Goals as goal

pub returns : goal.returns
returns c =
    let fits = subst (λ n. n < 2 ^ c.binary_digits.result) c.len.ensures c.binary_digits.ensures in
    let few : binary_digits (length c.args.pairs.now) ≤ c.binary_digits.result = (c.digits_are_least.ensures (length c.args.pairs.now)).1 c.binary_digits.result fits in
    let most = c.place.ensures.keys.1 in
    (c.place.ensures.keys.0, omega arith)
