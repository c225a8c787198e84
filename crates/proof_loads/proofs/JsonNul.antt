-- No JSON text has a NUL.
use Rattle.proof_loads.proofs.Common.{JsonTextsAreWithoutNul, spell_text}
use Rattle.proof_loads.proofs.JsonTokens.Texts.{json_text_reads}
use Rattle.proof_loads.proofs.Nul.{whole}

pub json_texts_have_no_nul : JsonTextsAreWithoutNul
json_texts_have_no_nul w is = whole (spell_text w) (json_text_reads w is).none
