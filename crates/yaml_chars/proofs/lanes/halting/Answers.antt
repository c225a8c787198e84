use Rattle.std.proofs.lemmas.Simd.{zip2_of_maps}
use Rattle.yaml_chars.proofs.Common.{arith, halts, pairs, sym, ℕ, ◌∙◌}
use Rattle.yaml_chars.proofs.LaneLemmas.{against, and_lanes, length-pairs, or_lanes, sides, tested}
use Rattle.yaml_chars.proofs.MaskLemmas.{below, hit, other}
use Rattle.yaml_chars.proofs.lanes.halting.Goals as goal
use lib.Bits.{bit_and, bit_or}

pub returns : goal.returns
returns c =
    let v = pairs c.args.block c.args.next in
    let alike = c.fits-block.0 ∙ sym c.fits-next.0 in
    let long = length-pairs _ _ alike ∙ c.fits-block.0 in
    let both = sides _ _ alike in
    let at = λ (f : ℕ → ℕ → ℕ) (y : ℕ). against f (λ x. x.0) v 16 y long both.0 in
    let after = λ (f : ℕ → ℕ → ℕ) (y : ℕ). against f (λ x. x.1) v 16 y long both.1 in
    let first = zip2_of_maps bit_or _ _ v (zip2_of_maps bit_or _ _ v (zip2_of_maps bit_or _ _ v (at below 33) (at hit 127))
    (at hit c.args.first)) (at hit c.args.second) in
    let second =
    zip2_of_maps bit_or _ _ v (zip2_of_maps bit_or _ _ v (zip2_of_maps bit_or _ _ v (at other 32) (after below 48)) (after hit 58))
    (after hit 91) in
    let third = zip2_of_maps bit_or _ _ v (zip2_of_maps bit_or _ _ v second (after hit 92)) (after hit 93) in
    let fourth = zip2_of_maps bit_or _ _ v (zip2_of_maps bit_or _ _ v third (after hit 123)) (after hit 125) in
    tested (halts c.args.first c.args.second) v _ (omega arith) (zip2_of_maps bit_and _ _ v first fourth ∙ simp (or_lanes, and_lanes))
