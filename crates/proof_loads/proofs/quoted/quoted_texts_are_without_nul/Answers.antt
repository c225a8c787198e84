use Rattle.proof_loads.proofs.QuotedTexts.{quoted_texts_have_no_nul}
use Rattle.proof_loads.proofs.quoted.quoted_texts_are_without_nul.Goals as goal

pub returns : goal.returns
returns c = quoted_texts_have_no_nul
