-- Texts of one quoted scalar have their tokens.
use Rattle.proof_loads.proofs.Common.{QuotedTextsHaveTheirTokens}
use Rattle.proof_loads.proofs.HasRows.Values.{quoted_reads}
use Rattle.proof_loads.proofs.HasRows.Steps.{has_tokens}

pub quoted_texts_have_their_tokens : QuotedTextsHaveTheirTokens
quoted_texts_have_their_tokens text tokens (w, value, spelt, is, same) =
    rw (← spelt, same) (has_tokens _ _ (quoted_reads w.quotes w.body value w.breaks is))
