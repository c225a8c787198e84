use Rattle.yaml_json.proofs.ReadCommon.{AreOpen, length}
use Rattle.yaml_json.proofs.reader.read_value.Given as goal

abbrev pub invariant-values : goal.invariant-values
invariant-values l = AreOpen l.opened.items 255 l.fn.cursor l.cursor

abbrev pub decreases-values : goal.decreases-values
decreases-values l = length l.cursor
