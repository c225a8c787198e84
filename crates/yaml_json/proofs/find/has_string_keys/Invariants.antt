use Rattle.yaml_json.proofs.Common.{are_strings, pairs_of, ◌≡◌}
use Rattle.yaml_json.proofs.find.has_string_keys.Given as goal

abbrev pub invariant-keys : goal.invariant-keys
invariant-keys l = are_strings (pairs_of l.fn.pairs) ≡ are_strings (pairs_of l.key-iterator)
