use Rattle.yaml_chars.proofs.Common.{is_simple, slice_index, true, ℕ, ◌<◌, ◌≡◌, ◌≤◌}
use Rattle.yaml_chars.proofs.block_line.are_simple.Given as goal

abbrev pub invariant-held : goal.invariant-held
invariant-held l = (k : ℕ) → l.start ≤ k → k < l.i → is_simple (slice_index l.held k) ≡ true
