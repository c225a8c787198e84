use Rattle.yaml_scanner.proofs.Common.{false, held, Moves, Reads, white, ◌≡◌}
use Rattle.yaml_scanner.proofs.fetcher.Fetcher.skip_yaml_whitespace.Given as goal

abbrev pub invariant-space : goal.invariant-space
invariant-space g l = record {
  white : Reads l.fn.self.window l.self.window (λ a b. white false false a (held l.fn.self) ≡ white false l.found b (held l.self));
  bounds : Moves l.fn.self l.self 0 0;
}

abbrev pub decreases-space : goal.decreases-space
decreases-space g l = l.self.window.left
