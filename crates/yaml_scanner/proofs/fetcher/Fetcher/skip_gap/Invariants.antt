use Rattle.yaml_scanner.proofs.Common.{between, held, Moves, Reads, skip, ◌≡◌}
use Rattle.yaml_scanner.proofs.fetcher.Fetcher.skip_gap.Given as goal

abbrev pub invariant-space : goal.invariant-space
invariant-space g l = record {
  gap : Reads l.fn.self.window l.self.window (λ a b. skip between a (held l.fn.self) ≡ skip between b (held l.self));
  bounds : Moves l.fn.self l.self 0 0;
}

abbrev pub decreases-space : goal.decreases-space
decreases-space g l = l.self.window.left
