use Rattle.yaml_encoding.proofs.TrapLemmas.{text_ignored, text_replaced, text_strict, text_called}
use Rattle.yaml_encoding.proofs.text.text_of.Goals as goal

pub returns-clause-ignore : goal.returns-clause-ignore
returns-clause-ignore g c = text_ignored _ _ _ _ c.decoded.ensures

pub returns-clause-replace : goal.returns-clause-replace
returns-clause-replace g c = text_replaced _ _ _ _ c.decoded.ensures

pub returns-clause-strict : goal.returns-clause-strict
returns-clause-strict g c = text_strict _ _ _ _ c.decoded.ensures

pub returns-clause-call : goal.returns-clause-call
returns-clause-call g c = text_called _ _ _ _ c.decoded.ensures
