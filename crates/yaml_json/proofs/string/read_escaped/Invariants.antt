use Rattle.yaml_json.proofs.Answering.{length, string_chars}
use Rattle.yaml_json.proofs.StringLemmas.{Goes}
use Rattle.yaml_json.proofs.string.read_escaped.Given as goal

abbrev pub invariant-escapes : goal.invariant-escapes
invariant-escapes l = Goes (string_chars l.fn.start) (string_chars l.string) l.fn.cursor l.cursor

abbrev pub decreases-escapes : goal.decreases-escapes
decreases-escapes l = length l.cursor
