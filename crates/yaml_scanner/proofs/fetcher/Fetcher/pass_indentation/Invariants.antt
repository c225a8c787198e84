use Rattle.yaml_scanner.proofs.Common.{between, held, Moves, Reads, skip, slice_index, ◌<◌, ◌≡◌}
use Rattle.yaml_scanner.proofs.fetcher.Fetcher.pass_indentation.Given as goal

abbrev pub invariant-spaces : goal.invariant-spaces
invariant-spaces g l = record {
  gap : Reads l.fn.self.window l.self.window (λ a b. slice_index a 0 ≡ 32 → skip between a (held l.fn.self) ≡ skip between b (held l.self));
  bounds : Moves l.fn.self l.self 0 0;
  less : l.self.window.left < l.fn.self.window.left;
}

abbrev pub decreases-spaces : goal.decreases-spaces
decreases-spaces g l = l.self.window.left
