-- A text without NUL that has a row is read: each run ends the stream or is refused, and a text with a row is not refused.
use Rattle.proof_row.proofs.OneRow.{one_reading}
use Rattle.proof_scanner.proofs.Common.{arith, At, Err, false, Fault, fetch, fetch_stream_start, has_no_nul, held_of, here, inl, inr, IsRead, length, List, Ok, OutOfMemory, Reaches, refl, Result, ScannerState, Stands, start, suc, there, true, zero, ℕ, ◌<◌, ◌≡◌, ◌≤◌}
use Rattle.proof_scanner.proofs.Refusals.Common.{Fetched, Told, fetched, first_fetch, tokens_are_of_a_row, with_row, stream_started}
use Rattle.proof_scanner.specs.Goes.{IsComplete}
use Rattle.proof_scanner.proofs.Refusals.KeysThatWait.{texts_with_a_row_are_not_stuck}
use Rattle.proof_scanner.proofs.Refusals.Refusals.{refusal_told}

-- how a run goes on: it comes to the stream's end, or is refused
data Outcome (t : ScannerState) : Type 0 where
  ends : (u : ScannerState) → Reaches t u → u.held.ended ≡ true → Outcome t
  refused : (u : ScannerState) (f : Fault) → Reaches t u → u.held.ended ≡ false → fetch u ≡ Err f → Outcome t

before : (t u : ScannerState) → t.held.ended ≡ false → fetch t ≡ Ok u → Outcome u → Outcome t
before t u going e (ends v run ended) = ends v (there going e run) ended
before t u going e (refused v f run on g) = refused v f (there going e run) on g

-- by what comes of the next fetch
outcome_by : (text : List ℕ) → has_no_nul text ≡ true → (t : ScannerState) → Stands text t → ((u : ScannerState) → Stands text u → length u.rest < length t.rest → Outcome u) → Outcome t
outcome_by text nul t s on = by (fetch t) refl
  where
    next : (u : ScannerState) → fetch t ≡ Ok u → Fetched text t.rest u → Outcome t
    next u e (inl n) = before t u s.going e (on u n.stands n.less)
    next u e (inr n) = ends u (there s.going e here) n.0

    by : (r : Result ScannerState Fault) → fetch t ≡ r → Outcome t
    by (Err f) e = refused t f here s.going e
    by (Ok u) e = next u e (held_of u (fetched text nul t s) e)

outcome : (text : List ℕ) → has_no_nul text ≡ true → (n : ℕ) (t : ScannerState) → Stands text t → length t.rest ≤ n → Outcome t
outcome text nul zero t s n = outcome_by text nul t s (λ u z less. absurd (omega (arith, n, less)))
outcome text nul (suc m) t s n = outcome_by text nul t s (λ u z less. outcome text nul m u z (omega (arith, n, less)))

-- from the start of a text
run_ends : (text : List ℕ) → has_no_nul text ≡ true → Outcome (start text)
unfolding fetch_stream_start
run_ends text nul =
    let first : ScannerState = fetch_stream_start (start text) in
    before (start text) first refl (first_fetch text) (outcome text nul (length text) first (stream_started text nul) (omega arith))

pub texts_with_a_row_are_read : IsComplete
texts_with_a_row_are_read text tokens nul (r, h, is) =
    let not_refused : (f : Fault) → Told text f → ⊥ = elim [ OutOfMemory ↦ λ t. t | At why at ↦ λ t. texts_with_a_row_are_not_stuck text why at r h (t (with_row r h)).is_stuck ] in
    elim (run_ends text nul) [
      | ends u run ended ↦
          let mine : IsRead text u.held.tokens = tokens_are_of_a_row text u.held.tokens nul (record { end = u; run = run; ended = ended; tokens = refl }) in
          record { end = u; run = run; ended = ended; tokens = one_reading text u.held.tokens tokens mine (r, h, is) }
      | refused u f run going e ↦ absurd (not_refused f (refusal_told text f nul (record { last = u; run = run; going = going; refused = e })))
    ]
