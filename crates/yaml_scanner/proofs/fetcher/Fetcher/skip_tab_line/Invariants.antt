use Rattle.yaml_scanner.proofs.Common.{between, held, is_before_indent, Moves, Reads, skip, slice_index, tab_line, true, ◌<◌, ◌≡◌}
use Rattle.yaml_scanner.proofs.fetcher.Fetcher.skip_tab_line.Given as goal

abbrev pub invariant-tabs : goal.invariant-tabs
invariant-tabs g l = record {
  gap : Reads l.fn.self.window l.self.window (λ a b. slice_index a 0 ≡ 9 → is_before_indent (held l.fn.self) ≡ true → skip between a (held l.fn.self) ≡ skip tab_line b (held l.self));
  bounds : Moves l.fn.self l.self 0 8;
  less : l.self.window.left < l.fn.self.window.left;
}

abbrev pub decreases-tabs : goal.decreases-tabs
decreases-tabs g l = l.self.window.left
