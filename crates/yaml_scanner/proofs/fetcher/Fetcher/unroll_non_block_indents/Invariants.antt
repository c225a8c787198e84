use Rattle.yaml_scanner.proofs.Common.{length, Moves, without_open, ◌≡◌}
use Rattle.yaml_scanner.proofs.fetcher.Fetcher.unroll_non_block_indents.Given as goal

abbrev pub invariant-levels : goal.invariant-levels
invariant-levels g l = record {
  state : l.self ≡ record l.fn.self { levels = l.self.levels };
  levels : without_open l.fn.self.levels.indent l.fn.self.levels.indents l.fn.self.tokens.all ≡ without_open l.self.levels.indent l.self.levels.indents l.fn.self.tokens.all;
  bounds : Moves l.fn.self l.self 0 0;
}

abbrev pub decreases-levels : goal.decreases-levels
decreases-levels g l = length l.self.levels.indents
