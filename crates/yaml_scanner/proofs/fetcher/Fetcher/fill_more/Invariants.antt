use Rattle.yaml_scanner.proofs.Common.{Fetches, Follows, None, true, work, ◌≡◌, ◌≤◌}
use Rattle.yaml_scanner.proofs.fetcher.Fetcher.fill_more.Given as goal

abbrev pub invariant-tokens : goal.invariant-tokens
invariant-tokens g l = record {
  run : Fetches l.fn.self l.self;
  start : l.self.window.start ≡ l.fn.self.window.start;
  left : work l.self ≤ work l.fn.self;
  kept : l.self.kept ≡ None;
  follows : Follows l.self;
  after : l.fn.self.tokens.ended ≡ true → l.self ≡ l.fn.self;
}

abbrev pub decreases-tokens : goal.decreases-tokens
decreases-tokens g l = work l.self
