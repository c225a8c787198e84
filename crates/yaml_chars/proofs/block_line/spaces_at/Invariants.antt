use Rattle.yaml_chars.proofs.Common.{length, slice_index, ℕ, ◌+◌, ◌-◌, ◌<◌, ◌≡◌, ◌≤◌}
use Rattle.yaml_chars.proofs.block_line.spaces_at.Given as goal

abbrev pub invariant-spaces : goal.invariant-spaces
invariant-spaces l = record {
  within : l.start + l.count ≤ length l.bytes;
  blank : (k : ℕ) → k < l.count → slice_index l.bytes (l.start + k) ≡ 32;
}

abbrev pub decreases-spaces : goal.decreases-spaces
decreases-spaces l = length l.bytes - l.count
