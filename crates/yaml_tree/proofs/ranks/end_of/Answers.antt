use Rattle.yaml_tree.proofs.Common.{arith, digest_at, Entry, length, List, number_got, ℕ, ◌-◌, ◌<◌, ◌≤◌}
use Rattle.yaml_tree.proofs.ranks.end_of.Goals as goal

-- what holds from one on, holds from the one before on if it holds there
from_before : (es : List Entry) (digest end : ℕ) → 0 < end → digest < digest_at es (end - 1) → ((i : ℕ) → end ≤ i → i < length es → digest < digest_at es i)
    → (i : ℕ) → end - 1 ≤ i → i < length es → digest < digest_at es i
from_before es digest end some here after i h g = grind arith

pub returns-then-entries-end-clause-before : goal.returns-then-entries-end-clause-before
returns-then-entries-end-clause-before c =
    let es = c.args.entries.now in
    let last = c.loop-end.end - 1 in
    let test : 0 < c.loop-end.end = c.loop-end-test.true in
    let inside : last < length es = omega (arith, test, c.loop-end.invariant.within) in
    let got = number_got (λ e. e.digest) es last (record { digest = 0; place = 0 }) inside in
    λ i h. omega (arith, c.requires.rising i last (omega (arith, h)) inside, got, c.if-entries-end.true)

pub loop-end-preserved : goal.loop-end-preserved
loop-end-preserved c =
    let es = c.args.entries.now in
    let test : 0 < c.loop-end.end = c.loop-end-test.true in
    let inside : c.loop-end.end - 1 < length es = omega (arith, test, c.loop-end.invariant.within) in
    let got = number_got (λ e. e.digest) es (c.loop-end.end - 1) (record { digest = 0; place = 0 }) inside in
    record {
      within = omega (arith, c.loop-end.invariant.within);
      after = from_before es c.args.digest c.loop-end.end test (omega (arith, got, c.if-entries-end.false)) c.loop-end.invariant.after;
    }
