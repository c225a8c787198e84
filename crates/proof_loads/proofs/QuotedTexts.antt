-- A text that is one quoted scalar has no NUL, and means one string.
use Rattle.proof_loads.proofs.Common.{[], IsWithoutNul, refl, subst, Tok, ◌∷◌, HasQuotedTokens, style_of}
use Rattle.proof_layouts.proofs.Quoted.{quoted_read_as_their_string}
use Rattle.proof_loads.proofs.Nul.{whole}
use Rattle.proof_loads.proofs.HasRows.Values.{quoted_reads}
use Rattle.proof_loads.proofs.QuotedTokens.Tokens.{quoted_texts_have_their_tokens}
use Rattle.proof_loads.specs.QuotedTexts.{QuotedTextsMeanTheirString, QuotedTextsAreWithoutNul}
use Rattle.proof_loads.proofs.RowTexts.{means}

pub quoted_texts_have_no_nul : QuotedTextsAreWithoutNul
quoted_texts_have_no_nul text value (w, spelt, is) = subst IsWithoutNul spelt (whole _ (quoted_reads w.quotes w.body value w.breaks is).none)

pub quoted_texts_are_read : QuotedTextsMeanTheirString
quoted_texts_are_read keep_tags text value (w, spelt, is) =
    let q : HasQuotedTokens text (Tok.stream_start ∷ Tok.scalar (style_of w.quotes) value ∷ Tok.stream_end ∷ []) = (w, value, spelt, is, refl) in
    means (quoted_texts_have_no_nul text value (w, spelt, is)) (quoted_texts_have_their_tokens text _ q)
    (quoted_read_as_their_string keep_tags text _ q)
