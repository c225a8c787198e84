use Rattle.proof_loads.proofs.HasRows.Steps.{none_is_refused}
use Rattle.proof_loads.proofs.JsonTokens.Texts.{json_text_has_its_tokens}
use Rattle.proof_loads.proofs.laws.json_texts_are_not_refused.Goals as goal

pub returns : goal.returns
returns c w is f refusal = none_is_refused _ _ (json_text_has_its_tokens w is) f refusal
