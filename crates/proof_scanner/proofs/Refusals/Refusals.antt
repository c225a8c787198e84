-- Where the scanner's model refuses a text with a fault of a kind that is told, the text is stuck.
use Rattle.proof_scanner.proofs.Common.{[], ap, Arrives, At, begins, cleared, drop_stale, false, Fares, Fault, fetch, fetch_here, fetch_next, fetch_stream_end, fetch_stream_start, has_no_nul, has_required, held_of, here, Holds, in_flow, inl, inr, is_empty, is_far, is_overdue, IsRefused, Key, List, list_any, map, next_line, not-false, Ok, on_held, Option, outside_key, over, peek, Position, Reaches, refl, RefusedTextsAreStuck, ScannerState, Some, stale, Stands, start, still, sym, there, top_key, true, unroll_indent, ℕ, ◌+◌, ◌==◌, ◌∙◌, ◌∷◌, ◌≡◌, ◌⊎◌, arith, eqb-true, nat_tests, Account, Bool, Fails, fails, IsStuck, key_waits, AnchorIndentation, KeyExpected, KeyWithoutColon, goes}
use Rattle.model_scanner.specs.Keys.{with_keys}
use Rattle.proof_scanner.proofs.Refusals.Common.{Faults, IsRowless, Told, content_kept, either, fault_is, fetch_keeps, first_fetch, goes_on_here, kind, no_entries, one_key, passed_stands, reached, rowless_told, tried}
use Rattle.proof_scanner.specs.Never.{AnchorIndentationNeverComes}
use Rattle.proof_scanner.proofs.Refusals.Fetches.{here_told}
use Rattle.proof_scanner.proofs.Refusals.Passing.{HasNear, fetch_near, passing_told}
use Rattle.proof_scanner.proofs.Refusals.KeysThatWait.{stale_rowless}
use Rattle.proof_scanner.proofs.Refusals.Indicators.{unrolled_stays}
use Rattle.proof_scanner.proofs.Sound.Arriving.{stale_arrives}
use Rattle.proof_scanner.proofs.Cut.Faults.Shown.{line_neither, tag_neither}
use Rattle.model_scanner.proofs.Holds as holds
use Rattle.proof_scanner.proofs.Refusals.Places as faults
use Rattle.proof_scanner.specs.NoPiece as none

-- ---- no text is stuck for a property in the first column before an entry there: each reason is one of another kind of fault

quoted_never : (single : Bool) (more : List ℕ) → none.IsNotQuoted single more AnchorIndentation → ⊥
quoted_never single more (none.by_escape body after _ double cut has bad) = elim bad [ ]

fails_never : (a : Account) (separation rest : List ℕ) (spot at : Position) → Fails a separation spot rest AnchorIndentation at → ⊥
fails_never a separation rest spot at b = grind (arith, nat_tests, eqb-true, tag_neither, quoted_never, line_neither)

pub stuck_never : (text : List ℕ) (at : Position) → IsStuck text AnchorIndentation at → ⊥
stuck_never text at (fails a separation rest _ spot _ place some solid f) = fails_never a separation rest spot at f.fails
stuck_never text at (key_waits a separation rest _ begin spot _ g flowing filled here_is late some solid f) = fails_never a separation rest spot at f.fails

-- ---- a fetch

-- keys that must be ones and are far, where there are none in a text with a row
overdue_told : (text : List ℕ) (t : ScannerState) → (in_flow t.held ≡ false → list_any (is_overdue t.held.position) t.held.keys ≡ true → IsRowless text) → Faults (Told text) (stale t.held)
unfolding stale drop_stale
overdue_told text t rowless =
    either (in_flow t.held) (λ _. faults.goes) (λ o. faults.kept (with_keys t.held) (λ e. refl) (λ x. faults.goes)
    (rowless_told text (list_any (is_overdue t.held.position) t.held.keys) KeyWithoutColon t.held.position (map (still t.held.position) t.held.keys) refl (rowless o)))

stale_told : (text : List ℕ) → has_no_nul text ≡ true → (u : ScannerState) → Stands text u → Faults (Told text) (stale u.held)
stale_told text nul u s = overdue_told text u (λ o h.
    -- the open key is far and must be one
    let overdue : (p : Position) (k : Option Key) (ks : List (Option Key)) → ks ≡ k ∷ [] → list_any (is_overdue p) ks ≡ true → (x : Key) × (k ≡ Some x) × (is_far x.position p ≡ true) × (x.required ≡ true) = λ p k ks e h. grind arith in
    let out : is_empty u.held.flow ≡ true = not-false (is_empty u.held.flow) o in
    let only = one_key u.held.keys u.held.flow s.one_each out in
    let far = overdue u.held.position only.0 u.held.keys only.1 h in
    let none_in : s.base.entries ≡ [] = no_entries u.held.key_allowed _ u.held.flow u.held.keys s.base.entries out s.are_entries in
    stale_rowless text u s nul far.0 (ap (λ es. outside_key es u.held.keys) none_in ∙ (ap top_key only.1 ∙ far.1)) far.3 far.2)

-- where no key must be one none is refused
none_overdue : (p : Position) (ks : List (Option Key)) → has_required ks ≡ false → list_any (is_overdue p) ks ≡ false
none_overdue p [] h = refl
none_overdue p (k ∷ ks) h = grind (arith, none_overdue p ks)

-- A fetch that goes on stands again before it drops keys; one that ends the stream leaves none.
abbrev StandsOrEnds : List ℕ → ScannerState → Type 0
StandsOrEnds text t = Stands text t ⊎ (has_required t.held.keys ≡ false)

end_cleared : (t : ScannerState) → Holds (λ u. has_required u.held.keys ≡ false) (fetch_stream_end t)
unfolding fetch_stream_end
end_cleared t = holds.tried {P = λ h. has_required h.keys ≡ false} t _ (holds.checked (has_required t.held.keys) (At KeyExpected (next_line t.held.position)) (λ _. holds.went (ap has_required (unrolled_stays 0 _).1 ∙ none t.held.keys))) (λ h k. k)
  where
    none : (ks : List (Option Key)) → has_required (cleared ks) ≡ false
    none [] = refl
    none (k ∷ ks) = none ks

here_stands : (text : List ℕ) (t : ScannerState) → Arrives text t → Holds (StandsOrEnds text) (fetch_here t)
unfolding fetch_here
here_stands text t a = holds.either (peek t.rest == 0) (λ _. holds.weakened (λ u x. inr x) (end_cleared t)) (λ e. holds.weakened (λ u x. inl x.stands) (content_kept text t a (goes_on_here t.rest e)))

left_told : (text : List ℕ) → has_no_nul text ≡ true → (t : ScannerState) → StandsOrEnds text t → Faults (Told text) (stale t.held)
left_told text nul t (inl s) = stale_told text nul t s
left_told text nul t (inr none) = overdue_told text t (λ _ h. absurd (cc (h, none_overdue t.held.position t.held.keys none)))

next_told : (text : List ℕ) → has_no_nul text ≡ true → (t : ScannerState) → Stands text t → HasNear t.held → Faults (Told text) (fetch_next t)
unfolding fetch_next
next_told text nul t s near =
    faults.knowing (passed_stands text t s) (passing_told text t s near) (λ u a.
    faults.knowing (stale_arrives text u a.0 a.1) (tried u (stale_told text nul u a.0)) (λ v b.
    faults.knowing (here_stands text (on_held (λ h. unroll_indent (h.position.col + 1) h) v) b.0) (here_told text (on_held (λ h. unroll_indent (h.position.col + 1) h) v) b.0) (λ w s. tried w (left_told text nul w s))))

fetch_told : (text : List ℕ) → has_no_nul text ≡ true → (t : ScannerState) → Stands text t → HasNear t.held → Faults (Told text) (fetch t)
unfolding fetch
fetch_told text nul t s near = either t.held.started (λ _. next_told text nul t s near) (λ n. absurd (cc (n, s.started)))

-- ---- a run

near_first : (text : List ℕ) → HasNear (fetch_stream_start (start text)).held
unfolding fetch_stream_start
near_first text = λ o k e. absurd (cc e)

-- What is known of a state of a run.
record Known (text : List ℕ) (t : ScannerState) : Type 0 where
  fares : Fares text t
  near : HasNear t.held

known_next : (text : List ℕ) → has_no_nul text ≡ true → (t u : ScannerState) → t.held.ended ≡ false → fetch t ≡ Ok u → Known text t → Known text u
known_next text nul t u going e k = record { fares = (reached fetch_keeps text nul t u (there going e here) k.fares); near = near_by k.fares }
  where
    near_by : Fares text t → HasNear u.held
    near_by (begins b) = grind (arith, nat_tests, eqb-true, start, first_fetch, near_first)
    near_by (goes s) = held_of u (fetch_near t s.started) e
    near_by (over f r n) = absurd (cc (going, f))

known_on : (text : List ℕ) → has_no_nul text ≡ true → (t u : ScannerState) → Reaches t u → Known text t → Known text u
known_on text nul t u here k = k
known_on text nul t u (there {u = v} going e run) k = known_on text nul v u run (known_next text nul t v going e k)

-- What a refusal says of the text.
pub refusal_told : (text : List ℕ) (f : Fault) → has_no_nul text ≡ true → IsRefused text f → Told text f
refusal_told text f nul r =
    let k : Known text r.last = known_on text nul (start text) r.last r.run (record { fares = begins refl; near = λ o k e. absurd (cc e) }) in
    elim k.fares [
      | begins b ↦ absurd (cc (sym (first_fetch text) ∙ (ap fetch (sym b) ∙ r.refused)))
      | goes s ↦ fault_is f (fetch_told text nul r.last s k.near) r.refused
      | over g n m ↦ absurd (cc (g, r.going))
    ]

pub refused_texts_are_stuck : RefusedTextsAreStuck
refused_texts_are_stuck text why at nul r told = (refusal_told text (At why at) nul r (kind told)).is_stuck

pub anchor_indentation_never_comes : AnchorIndentationNeverComes
anchor_indentation_never_comes text at nul r = stuck_never text at (refused_texts_are_stuck text AnchorIndentation at nul r refl)
