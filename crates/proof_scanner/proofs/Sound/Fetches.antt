-- Each fetch what holds between two fetches, or ends the stream with a row of the text, if the function of each token it.
use Rattle.proof_scanner.proofs.Common.{Arrives, FetchKeeps, Holds, IsAtEnd, IsPositionIn, IsRead, List, ScannerState, Stands, [], ap, before_by, before_past, chained, either, false, fetch, fetch_content, fetch_here, fetch_next, first_position, has_no_nul, held_of, inl, inr, is_adjacent, is_empty, next_line, peek, position_after, refused, stale, sym, true, try_held, weakened, ℕ, ◌==◌, ◌>>=◌, ◌∙◌, ◌≡◌, ◌⊎◌, append-nil, length, ◌≤◌, tried, over, arith, goes}
use Rattle.model_scanner.specs.State.{after}
use Rattle.proof_scanner.proofs.Sound.Steps.{Onward, content_holds, goes_on_here, keys_only, no_end, stale_stands, stream_ended, token_holds, whole_text, arrives_cut, cut_position}
use Rattle.proof_scanner.proofs.Sound.Arriving.{arrived}
use Rattle.proof_scanner.proofs.Sound.BlockScalars.{block_keeps}
use Rattle.proof_scanner.proofs.Sound.FlowMarks.{closing_bracket, closing_brace, comma_keeps, closing_keeps, opening_keeps, opening_bracket, opening_brace}
use Rattle.proof_scanner.proofs.Sound.Questions.{dash_keeps, key_keeps}
use Rattle.proof_scanner.proofs.Sound.DocumentLines.{document_start_keeps, document_end_keeps, directive_keeps}
use Rattle.proof_scanner.proofs.Sound.PlainKeeps.{plain_keeps}
use Rattle.proof_scanner.proofs.Sound.Properties.{anchor_keeps, tag_keeps}
use Rattle.proof_scanner.proofs.Sound.QuotedKeeps.{quoted_keeps}
use Rattle.proof_scanner.proofs.Sound.Values.{value_keeps}

-- ---- markers, and the text's end

pub content_kept : (text : List ℕ) (t : ScannerState) → Arrives text t → is_empty t.rest ≡ false → Holds (Onward text t.rest) (fetch_content t)
content_kept text t a some =
    content_holds (Holds (Onward text t.rest)) t some (record {
      directive = directive_keeps text (after t.rest) t a;
      document_start = λ more. document_start_keeps text more t a;
      document_end = λ more. document_end_keeps text more t a;
      shallow = λ n low. refused;
      token = λ n deep. (token_holds (Holds (Onward text t.rest)) t (is_adjacent (before_past (before_by a.base.site.before) a.separation)) a.is_clean a.is_solid (λ inside. sym (a.is_adjacent_here inside some)) n.0
          (search (anchor_keeps, tag_keeps, plain_keeps, quoted_keeps, block_keeps, dash_keeps, key_keeps, value_keeps, opening_keeps, opening_bracket, opening_brace, closing_keeps, closing_bracket, closing_brace, comma_keeps, refused)) some);
    })

-- A fetch goes on with less text left, or ends the stream with a row of the text.
abbrev pub Fetched : (text before : List ℕ) → ScannerState → Type 0
Fetched text before u = Onward text before u ⊎ ((u.held.ended ≡ true) × IsRead text u.held.tokens × IsAtEnd text u.held)

-- a token is read, or the stream ends
here_kept : (text : List ℕ) → has_no_nul text ≡ true → (t : ScannerState) → Arrives text t → Holds (Fetched text t.rest) (fetch_here t)
unfolding fetch_here
here_kept text nul t a =
    either (peek t.rest == 0) (λ e.
    let none : t.rest ≡ [] = no_end t.rest a.is_clean e in
    let at : IsPositionIn text [] t.held.position =
    rw (sym none) (cut_position text a.separation t.rest a.base a.tokens t.held.position (whole_text text nul) a.position_is (arrives_cut text t a)) in
    let here : t.held.position ≡ position_after first_position text [] = at.is_position ∙ ap (λ b. position_after first_position b []) (sym (append-nil at.before) ∙ sym at.is_text) in
    weakened (λ u x. inr (x.0, x.1, record { began = x.2 ∙ a.started; position = x.3 ∙ ap next_line here })) (stream_ended text t a none)) (λ e. weakened (λ u x. inl x) (content_kept text t a (goes_on_here t.rest e)))

-- This stays so after stale keys are dropped.
stale_kept : (text before rest : List ℕ) (t : ScannerState) → length rest ≤ length before → Fetched text rest t → Holds (Fetched text before) (try_held stale t)
stale_kept text before rest t m (inl s) = tried t (stale t.held) (stale_stands text t s.stands) (λ h d. inl (record { stands = d.stands; less = omega (arith, s.less, m) }))
stale_kept text before rest t m (inr e) = tried t (stale t.held) (keys_only t.held) (λ h d. inr (grind (arith, d, e)))

pub fetched : (text : List ℕ) → has_no_nul text ≡ true → (t : ScannerState) → Stands text t → Holds (Fetched text t.rest) (fetch t)
unfolding fetch fetch_next
fetched text nul t s =
    either t.held.started (λ _. arrived text t (λ v. fetch_here v >>= λ w. try_held stale w) (Fetched text t.rest) s (λ v a m. chained (here_kept text nul v a) (λ w x. stale_kept text t.rest v.rest w m x)))
    (λ n. absurd (cc (n, s.started)))

-- Each fetch what holds, if the function of each token it.
pub fetch_keeps : FetchKeeps
fetch_keeps text t u nul s e = grind (arith, goes, over, held_of u (fetched text nul t s) e)
