-- A text has one row. The choice of keys goes forwards, the proof backwards: at the text's end no key waits, so like accounts are equal there, and that is carried back to the start.
use Rattle.proof_row.proofs.Common.{[], account_past, ap, false, first_account, has_no_nul, Holds, is_separation, IsRowFrom, IsWritten, List, None, OneReading, OneRow, Option, refl, Some, Step, sym, tokens_of_row, ℕ, ◌++◌, ◌∙◌, ◌∷◌, ◌≡◌, arith, no_nul_after}
use Rattle.proof_row.proofs.Pieces.{no_piece_at_end, clean_up_to_end}
use Rattle.defs_token.specs.Step.{spelled}
use Rattle.defs_token.specs.RowAccount.{Account}
use Rattle.proof_row.proofs.Like.{IsLike, Stepped}
use Rattle.proof_row.proofs.Accounts.{account_step, same_at_end}
use Rattle.proof_row.proofs.Written.{not_empty, same_written}

-- no step begins in the separation at a text's end
at_end : (b : Account) (v : Step) (f next : List ℕ) → Holds (is_separation false f []) → IsWritten b v next → f ≡ v.separation ++ (v.piece ++ next) → ⊥
at_end b v f next h k e = grind (arith, no_piece_at_end, not_empty)

rows_from : (Were : Type 0) (x y : Option Account) (r s : List Step) (f g : List ℕ) → Stepped IsLike Were x y →
    IsRowFrom x r f → IsRowFrom y s g → spelled r f ≡ spelled s g → Holds (has_no_nul (spelled r f)) → Were × (r ≡ s) × (f ≡ g)
rows_from Were None y r s f g t h k e c = absurd h
rows_from Were x None r s f g t h k e c = absurd k
rows_from Were (Some a) (Some b) [] [] f g t h k e c = (t.1 (same_at_end a b t.0 h.1 k.1), refl, e)
rows_from Were (Some a) (Some b) [] (v ∷ vs) f g t h k e c = absurd (at_end b v f (spelled vs g) h.0 k.0 e)
rows_from Were (Some a) (Some b) (w ∷ ws) [] f g t h k e c = absurd (at_end a w g (spelled ws f) k.0 h.0 (sym e))
rows_from Were (Some a) (Some b) (w ∷ ws) (v ∷ vs) f g t h k e c =
    let same = same_written a b w v (spelled ws f) (spelled vs g) t.0 h.0 k.0 e c in
    let clean : Holds (has_no_nul (spelled ws f)) = no_nul_after w.piece (spelled ws f) (no_nul_after w.separation (w.piece ++ spelled ws f) c) in
    let rest = rows_from ((a ≡ b) × (w ≡ v)) (account_past a w (spelled ws f)) (account_past b v (spelled vs g)) ws vs f g
    (account_step a b w v (spelled ws f) (spelled vs g) t.0 same.0 same.1 same.2 same.3) h.1 k.1 same.3 clean in
    (t.1 rest.0.0, ap (λ z. z ∷ ws) rest.0.1 ∙ ap (λ z. v ∷ z) rest.1, rest.2)

-- A text has at most one row.
pub one_row : OneRow
one_row text r s h k =
    let same = rows_from (first_account ≡ first_account) (Some first_account) (Some first_account) r.steps s.steps r.last s.last
    ((refl, tt, tt), λ e. e) h.1 k.1 (h.0 ∙ sym k.0) (rw (h.0) (clean_up_to_end text)) in
    grind (arith, same)

-- A text is read as at most one list of tokens.
pub one_reading : OneReading
one_reading text ts us h k = sym h.2 ∙ (ap tokens_of_row (one_row text h.0 k.0 h.1 k.1) ∙ k.2)
