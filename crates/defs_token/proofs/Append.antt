-- Rows one after the other: what a proof along the steps of a scanner wants.
use Rattle.defs_token.proofs.Common.{[], Account, account_past, account_past_row, ap, first_token, IsRow, IsWritten, List, Option, refl, spelled, subst, sym, Tok, tokens_of, Written, ℕ, ◌++◌, ◌∙◌, ◌∷◌, ◌≡◌}

-- the text of two rows
pub spelled_append : (ws vs : List Written) (f : List ℕ) → spelled (ws ++ vs) f ≡ spelled ws (spelled vs f)
spelled_append [] vs f = refl
spelled_append (w ∷ ws) vs f = ap (λ t. w.separation ++ (w.piece ++ t)) (spelled_append ws vs f)

-- the tokens of two rows
pub tokens_append : (ws vs : List Written) → tokens_of (ws ++ vs) ≡ tokens_of ws ++ tokens_of vs
tokens_append [] vs = refl
tokens_append (w ∷ ws) vs = ap (λ ts. w.token ∷ ts) (tokens_append ws vs)

first_append : (ws vs : List Written) (last : Option Tok) → first_token (ws ++ vs) last ≡ first_token ws (first_token vs last)
first_append [] vs last = refl
first_append (w ∷ ws) vs last = refl

-- the account after two rows
pub account_append : (a : Account) (ws vs : List Written) (f : List ℕ) → account_past_row a (ws ++ vs) f ≡ account_past_row (account_past_row a ws (spelled vs f)) vs f
account_append a [] vs f = refl
account_append a (w ∷ ws) vs f =
    ap (λ t. account_past_row (account_past a w t) (ws ++ vs) f) (spelled_append ws vs f) ∙
    account_append (account_past a w (spelled ws (spelled vs f))) ws vs f

-- A row, and another from the account and before the text and token after it, are one row.
pub row_append : (a : Account) (ws vs : List Written) (f : List ℕ) (last : Option Tok) →
    IsRow a ws (spelled vs f) (first_token vs last) → IsRow (account_past_row a ws (spelled vs f)) vs f last → IsRow a (ws ++ vs) f last
row_append a [] vs f last r s = s
row_append a (w ∷ ws) vs f last r s =
    let P : List ℕ → Type 0 = λ t. IsWritten a w t (first_token (ws ++ vs) last) × IsRow (account_past a w t) (ws ++ vs) f last in
    let Q : Option Tok → Type 0 = λ o. IsWritten a w (spelled ws (spelled vs f)) o in
    subst P (sym (spelled_append ws vs f)) (subst Q (sym (first_append ws vs last)) r.0, row_append (account_past a w (spelled ws (spelled vs f))) ws vs f last r.1 s)
