use Rattle.yaml_chars.proofs.Common.{count_by, is_first_byte, length, take, ◌-◌, ◌≡◌, ◌≤◌}
use Rattle.yaml_chars.proofs.count.counted.Given as goal

abbrev pub invariant-blocks-2 : goal.invariant-blocks-2
invariant-blocks-2 l = (l.count ≡ count_by is_first_byte (take l.at l.bytes)) × (l.at ≤ length l.bytes)

abbrev pub decreases-blocks-2 : goal.decreases-blocks-2
decreases-blocks-2 l = length l.bytes - l.at
