use Rattle.yaml_encoding.proofs.Common.{string_chars_nil}
use Rattle.yaml_encoding.proofs.ReadLemmas.{read_start, read_end}
use Rattle.yaml_encoding.proofs.text.decoded.Goals as goal

pub parts-init : goal.parts-init
parts-init g c = read_start _ _ _ _ _ c.chosen_encoding-chosen.ensures.value (string_chars_nil _ c.in_ok-text.ensures.bytes)

pub returns : goal.returns
returns g c = read_end _ _ _ _ _ c.parts.invariant c.parts-test.false
