use Rattle.yaml_scanner.proofs.Common.{false, held, in_flow, length, Moves, position_of, unrolled, ◌≡◌}
use Rattle.yaml_scanner.proofs.fetcher.Fetcher.end_levels.Given as goal

abbrev pub invariant-levels : goal.invariant-levels
invariant-levels g l = record {
  state : l.self ≡ record l.fn.self { levels = l.self.levels; tokens = record l.fn.self.tokens { all = l.self.tokens.all } };
  levels : unrolled l.fn.limit (position_of l.fn.self.window) l.fn.self.levels.indent l.fn.self.levels.indents l.fn.self.tokens.all ≡ unrolled l.fn.limit (position_of l.fn.self.window) l.self.levels.indent l.self.levels.indents l.self.tokens.all;
  flow : in_flow (held l.fn.self) ≡ false;
  bounds : Moves l.fn.self l.self 0 0;
}

abbrev pub decreases-levels : goal.decreases-levels
decreases-levels g l = length l.self.levels.indents
