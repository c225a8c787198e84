use Rattle.yaml_tree.proofs.Common.{drop, with_digits, ◌≡◌}
use Rattle.yaml_tree.proofs.digest.digest_of_bytes.Given as goal

abbrev pub invariant-loop-byte : goal.invariant-loop-byte
invariant-loop-byte l = with_digits l.number (drop l.byte-index l.bytes) ≡ with_digits 0 l.bytes
