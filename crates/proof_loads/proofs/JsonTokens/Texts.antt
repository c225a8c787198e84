-- JSON texts have their tokens.
use Rattle.proof_loads.proofs.Common.{[], append-nil, arith, false, first_account, first_position, free, IsWellFormed, json_tokens, JsonText, JsonTextsHaveNoOtherTokens, JsonTextsHaveTheirTokens, None, refl, spell_text, Tok, ◌∷◌}
use Rattle.proof_loads.proofs.HasRows.Steps.{no_other_tokens}
use Rattle.proof_loads.proofs.HasRows.Nodes.{outside, Reads, has_tokens, read_end}
use Rattle.proof_loads.proofs.HasRows.Json.{white, blanks, white_none, spelt, separates, ends, at_end, value_reads}

pub json_text_reads : (w : JsonText) → IsWellFormed w → Reads first_account (spell_text w) (json_tokens w.value (Tok.stream_end ∷ []))
json_text_reads w is =
    value_reads [] w.value is.value (λ e. cc) outside _ _ (Tok.stream_end ∷ []) (blanks [] w.before _ (λ e. cc)) (ends false [] at_end None (λ s. refl) w.after) (omega (arith, is.depth))
    (λ before quiet p awaits l line deep. rw (spelt w.after [], append-nil) (read_end p [] awaits before l (white w.after) line (separates w.after []) (white_none w.after))) first_position false free refl (omega arith)

pub json_text_has_its_tokens : JsonTextsHaveTheirTokens
json_text_has_its_tokens w is = has_tokens _ _ (json_text_reads w is)

pub json_text_has_no_other_tokens : JsonTextsHaveNoOtherTokens
json_text_has_no_other_tokens w is ts z = no_other_tokens _ _ (json_text_has_its_tokens w is) ts z
