use Rattle.yaml_chars.proofs.Common.{arith, is_beyond, nat_tests, ◌≡◌}
use Rattle.yaml_chars.proofs.LaneLemmas.{bytes_at, goes_all}
use Rattle.yaml_chars.proofs.lanes.has_beyond.Goals as goal

pub returns : goal.returns
returns c = λ e k h.
    let none : c.beyond_ascii-found.result ≡ 0 = grind (arith, nat_tests) in
    let low = goes_all (bytes_at c.args.bytes.now c.args.at c.requires) is_beyond _ c.beyond_ascii-found.ensures none k h in
    grind (arith, nat_tests)
