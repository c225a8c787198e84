-- The first of a text's tokens are a cut of a beginning of it.
use Rattle.proof_scanner.proofs.Common.{zero, IsPiece, [], ap, arith, begins, end_token, first_position, has_no_nul, inl, inr, IsCut, IsCutOfBeginning, IsCutUpTo, IsRow, IsWhere, List, None, Option, over, Position, Reaches, refl, rows_are_cuts, ScannerState, Some, start, start_token, stream_end, sym, Tok, Token, tokens_of, true, up_to_nul, Written, ℕ, ◌++◌, ◌∙◌, ◌∷◌, ◌≡◌, ◌⊎◌, goes, append-nil, drop, first_token, length, length-append, subst, suc, take, take-append-le, ◌≤◌}
use Rattle.defs_token.specs.Account.{Account, first_account}
use Rattle.defs_token.specs.Cut.{account_at, account_past, spelled}
use Rattle.proof_scanner.specs.Laws.{TokensAreACut}
use Rattle.proof_scanner.proofs.Refusals.Common.{cut_position, fetch_keeps, reached, stands_cut, tokens_are_of_a_row, whole_text}
use Rattle.std.proofs.Math.Seq.{take-append_seam, take-nil}

-- the first of a row spell the text before that of the others
spelled_first : (n : ℕ) (ws : List Written) (f : List ℕ) → spelled (take n ws) (spelled (drop n ws) f) ≡ spelled ws f
spelled_first (suc n) (w ∷ ws) f = ap (λ l. w.separation ++ (w.piece ++ l)) (spelled_first n ws f)
spelled_first n ws f = grind arith

tokens_first : (n : ℕ) (ws : List Written) → take n (tokens_of ws) ≡ tokens_of (take n ws)
tokens_first (suc n) (w ∷ ws) = ap (λ ts. w.token ∷ ts) (tokens_first n ws)
tokens_first n ws = grind arith

-- a row up to one of its tokens
row_first : (n : ℕ) (a : Account) (ws : List Written) (f : List ℕ) (last : Option Tok) → IsRow a ws f last →
    IsRow a (take n ws) (spelled (drop n ws) f) None
row_first zero a ws f last r = tt
row_first (suc n) a [] f last r = tt
row_first (suc n) a (w ∷ ws) f last r =
    rw (spelled_first n ws f) ((r.0.0, followed n ws r.0.1), row_first n (account_past a w (spelled ws f)) ws f last r.1)
  where
    next : List ℕ
    next = spelled ws f

    followed : (n : ℕ) (vs : List Written) → IsPiece (account_at a w next) w.piece next (first_token vs last) w.token.position w.token.tok →
        IsPiece (account_at a w next) w.piece next (first_token (take n vs) None) w.token.position w.token.tok
    followed (suc n) (v ∷ vs) h = h
    followed n vs h = grind (arith)

-- so many tokens of the stream's start and a row
begun_by : (text : List ℕ) (begin : Position) (ws : List Written) (after : List ℕ) (last : Option Tok) (n : ℕ) → spelled ws after ≡ up_to_nul text →
    IsRow first_account ws after last → IsCutOfBeginning (take n (start_token begin ∷ tokens_of ws)) text
begun_by text begin ws after last zero is_text row = inl refl
begun_by text begin ws after last (suc n) is_text row =
    inr (search (ap (λ ts. start_token begin ∷ ts) (tokens_first n ws), spelled_first n ws after ∙ is_text, row_first n first_account ws after last row))

-- Of a run, the first tokens are a cut of the whole text, up to the stream's end, or of a beginning of it.
pub first_tokens_are_cut : (text : List ℕ) (given more : List Token) (t : ScannerState) → has_no_nul text ≡ true → Reaches (start text) t → t.held.tokens ≡ given ++ more → IsCut given text ⊎ IsCutOfBeginning given text
first_tokens_are_cut text given more t nul run e = elim (reached fetch_keeps text nul (start text) t run (begins refl)) [
  | begins f ↦ inr (so_many [] (ap (λ y. take (length given) y.held.tokens) (sym f)) (inl (take-nil (length given))))
  | goes s ↦
      let c : IsCutUpTo text (s.separation ++ t.rest) s.base t.held.tokens = stands_cut text t s in
      inr (so_many _ (ap (take (length given)) (sym c.are_tokens)) (begun_by text first_position c.row (s.separation ++ t.rest) None (length given) c.is_text (c.is_row.is_row None)))
  | over f r n ↦ ended more e (rows_are_cuts text t.held.tokens r)
]
  where
    so_many : (ts : List Token) → take (length given) ts ≡ take (length given) t.held.tokens → IsCutOfBeginning (take (length given) ts) text → IsCutOfBeginning given text
    so_many ts f h = subst (λ us. IsCutOfBeginning us text) (f ∙ ap (take (length given)) e ∙ take-append_seam given more) h

    ended : (rest : List Token) → t.held.tokens ≡ given ++ rest → IsCut t.held.tokens text → IsCut given text ⊎ IsCutOfBeginning given text
    ended [] f c = inl (rw (sym (f ∙ append-nil given)) c)
    ended (x ∷ rest) f c =
        let xs : List Token = start_token c.begin ∷ tokens_of c.row in
        let few : length given ≤ length xs = omega (arith, ap length f, ap length c.are_tokens, length-append given (x ∷ rest), length-append xs (end_token c.end ∷ [])) in
        inr (so_many xs (sym (ap (take (length given)) c.are_tokens ∙ take-append-le (length given) xs (end_token c.end ∷ []) few))
        (begun_by text c.begin c.row c.separation (Some stream_end) (length given) c.is_text c.is_row))

-- The tokens that the model gives a text are a cut of it.
pub tokens_are_cut : TokensAreACut
tokens_are_cut text ts nul h = rows_are_cuts text ts (tokens_are_of_a_row text ts nul h)

-- ---- where a run has come to in a text, and whether it met the stream's start

pub run_is_where : (text : List ℕ) (t : ScannerState) → has_no_nul text ≡ true → Reaches (start text) t → IsWhere text t
run_is_where text t nul run = elim (reached fetch_keeps text nul (start text) t run (begins refl)) [
  | begins e ↦ grind (arith, over)
  | goes s ↦
      let c : IsCutUpTo text (s.separation ++ t.rest) s.base t.held.tokens = stands_cut text t s in
      grind (arith, s, c, cut_position text s.separation t.rest s.base t.held.tokens t.held.position (whole_text text nul) s.position_is c)
  | over f r n ↦ grind (arith, rows_are_cuts)
]
