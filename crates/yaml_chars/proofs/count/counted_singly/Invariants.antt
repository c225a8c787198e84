use Rattle.yaml_chars.proofs.Common.{count_by, is_first_byte, take, ◌≡◌}
use Rattle.yaml_chars.proofs.count.counted_singly.Given as goal

abbrev pub invariant-bytes : goal.invariant-bytes
invariant-bytes l = l.count ≡ count_by is_first_byte (take l.byte-index l.bytes)
