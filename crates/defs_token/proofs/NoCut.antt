-- What no cut of a text that is written out can be: each way to divide the text among the tokens is tried, by computing.
use Rattle.std.proofs.Math.Bool.{or-true}
use Rattle.std.proofs.Common.{arith}
use Rattle.std.proofs.lemmas.Bool.Decides.{nat_tests}
use Rattle.defs_text.specs.Tags.{is_same}
use Rattle.defs_token.proofs.Common.{[], Account, account_at, account_past, begins_pair, begins_with_key_indicator, Bool, codes, collection_column, end_token, false, first_account, flow_entry, flow_mapping_end, flow_mapping_start, flow_sequence_end, flow_sequence_start, has_no_break, has_open_pair, inl, inr, is_at_line_end, is_in_flow, is_separation, is_whole_plain, IsCut, IsPiece, IsRow, key, List, None, not, Option, past_separation, plain, plain_value, Position, refl, scalar, Some, spelled, start_token, stream_end, tag_directive, Tok, Token, tokens_of, true, up_to_nul, value, Written, ℕ, ◌&&◌, ◌++◌, ◌==◌, ◌||◌, ◌∷◌, ◌≡◌}

-- whether a test holds of one of the ways to divide a text into two
abbrev pub some_division : (List ℕ → List ℕ → Bool) → (text : List ℕ) → Bool
some_division test [] = test [] []
some_division test (c ∷ r) = test [] (c ∷ r) || some_division (λ a b. test (c ∷ a) b) r

divided : (test : List ℕ → List ℕ → Bool) (a b : List ℕ) → test a b ≡ true → some_division test (a ++ b) ≡ true
divided test [] [] h = h
divided test [] (c ∷ b) h = rw h refl
divided test (c ∷ a) b h = rw (divided (λ x y. test (c ∷ x) y) a b h) (or-true _)

-- ---- what a piece of a token must be

abbrev pub has_value : (text : List ℕ) → Option (List ℕ) → Bool
has_value text None = false
has_value text (Some t) = is_same t text

-- as far as the examples ask
abbrev pub may_be : Account → (p n : List ℕ) → (following : Option Tok) → Tok → Bool
may_be a p n o (tag_directive x y) = has_no_break p && is_at_line_end n
may_be a p n o flow_sequence_start = is_same p (codes "[")
may_be a p n o flow_sequence_end = is_same p (codes "]")
may_be a p n o flow_mapping_start =
    is_same p (codes "{") || (is_same p [] && begins_pair o && not (begins_with_key_indicator (past_separation false n)))
may_be a p n o flow_mapping_end = is_same p (codes "}") || (is_same p [] && has_open_pair a)
may_be a p n o flow_entry = is_same p (codes ",")
may_be a p n o key = is_same p (codes "?") || is_same p []
may_be a p n o value = is_same p (codes ":")
may_be a p n o (scalar plain x) = is_whole_plain (is_in_flow a) (collection_column a) p n && has_value x (plain_value p)
may_be a p n o _ = true

same_self : (t : List ℕ) → is_same t t ≡ true
same_self [] = refl
same_self (c ∷ t) = let same : (c == c) ≡ true = grind (arith, nat_tests) in rw (same, same_self t) refl

must_be : (a : Account) (p n : List ℕ) (o : Option Tok) (at : Position) (t : Tok) → IsPiece a p n o at t → may_be a p n o t ≡ true
must_be a p n o at (tag_directive x y) (inl d, e) = rw (d.1, d.3) refl
must_be a p n o at (tag_directive x y) (inr d, e) = rw (d.2.1, d.2.3) refl
must_be a p n o at flow_sequence_start q = rw q.0.0 refl
must_be a p n o at flow_sequence_end q = rw q.0.0 refl
must_be a p n o at flow_mapping_start (inl q) = rw q.0.0 refl
must_be a p n o at flow_mapping_start (inr q) = rw (q.0, q.2, q.3) refl
must_be a p n o at flow_mapping_end (inl q) = rw q.0.0 refl
must_be a p n o at flow_mapping_end (inr q) = rw (q.0, q.1) refl
must_be a p n o at flow_entry q = rw q.0.0 refl
must_be a p n o at key (inl q) = rw q.0 refl
must_be a p n o at key (inr q) = rw q.0 refl
must_be a p n o at value q = rw q.0 refl
must_be a p n o at (scalar plain x) q = rw (q.0.1, q.0.2, same_self x) refl
must_be a p n o at _ q = refl

-- ---- what a text must be

-- Whether one of the ways to divide the text among the tokens gives each a piece that may be its own. The last token is the stream's end.
abbrev pub is_possible : Account → List Token → (text : List ℕ) → Bool
is_possible a [] text = true
is_possible a (t ∷ []) text = is_separation false text []
is_possible a (t ∷ (u ∷ us)) text =
    some_division (λ f r. is_separation false f r && some_division (λ p n.
    may_be (account_at a (record { separation = f; piece = p; token = t }) n) p n (Some u.tok) t.tok &&
    is_possible (account_past a (record { separation = f; piece = p; token = t }) n) (u ∷ us) n) r) text

one_step : (a : Account) (w : Written) (u : Token) (us : List Token) (n : List ℕ) → is_separation false w.separation (w.piece ++ n) ≡ true →
    IsPiece (account_at a w n) w.piece n (Some u.tok) w.token.position w.token.tok → is_possible (account_past a w n) (u ∷ us) n ≡ true →
    is_possible a (w.token ∷ (u ∷ us)) (w.separation ++ (w.piece ++ n)) ≡ true
one_step a w u us n s q h =
    let is : may_be (account_at a w n) w.piece n (Some u.tok) w.token.tok ≡ true =
    must_be (account_at a w n) w.piece n (Some u.tok) w.token.position w.token.tok q in
    divided _ w.separation (w.piece ++ n) (rw s (divided _ w.piece n (rw (is, h) refl)))

row_possible : (a : Account) (ws : List Written) (f : List ℕ) (end : Position) →
    IsRow a ws f (Some stream_end) → is_separation false f [] ≡ true →
    is_possible a (tokens_of ws ++ (end_token end ∷ [])) (spelled ws f) ≡ true
row_possible a [] f end r s = s
row_possible a (w ∷ []) f end r s = one_step a w (end_token end) [] f r.0.0 r.0.1 (row_possible (account_past a w f) [] f end r.1 s)
row_possible a (w ∷ (v ∷ vs)) f end r s =
    one_step a w v.token (tokens_of vs ++ (end_token end ∷ [])) (spelled (v ∷ vs) f) r.0.0 r.0.1
    (row_possible (account_past a w (spelled (v ∷ vs) f)) (v ∷ vs) f end r.1 s)

-- Tokens after the stream's start that no way to divide a text allows are no cut of it.
pub no_cut : (begin : Position) (ts : List Token) {text : List ℕ} →
    is_possible first_account ts (up_to_nul text) ≡ false → IsCut (start_token begin ∷ ts) text → ⊥
no_cut begin ts e c =
    let same : ts ≡ tokens_of c.row ++ (end_token c.end ∷ []) = cc (c.are_tokens) in
    let yes = row_possible first_account c.row c.separation c.end c.is_row c.is_filled in
    cc (same, c.is_text, e, yes)
