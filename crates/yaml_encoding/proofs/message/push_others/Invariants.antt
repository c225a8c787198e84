use Rattle.yaml_encoding.proofs.Common.{after, drop, string_chars, ◌++◌, ◌≡◌}
use Rattle.yaml_encoding.proofs.message.push_others.Given as goal

abbrev pub invariant-others : goal.invariant-others
invariant-others l = string_chars l.text ++ after (drop l.byte-index l.bytes) ≡ string_chars l.fn.text ++ after l.bytes
