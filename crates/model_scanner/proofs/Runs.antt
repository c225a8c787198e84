-- Runs of the model put together: each state has one next state.
use Rattle.model_scanner.proofs.Common.{ap, Err, false, Fault, fetch, HasTokens, here, inl, inr, IsRefused, List, Ok, Reaches, refl, ScannerState, start, sym, there, Token, true, ℕ, ◌∙◌, ◌≡◌, ◌⊎◌}

pub reaches_then : {t u v : ScannerState} → Reaches t u → Reaches u v → Reaches t v
reaches_then here q = q
reaches_then (there e f p) q = there e f (reaches_then p q)

-- one fetch more
pub one_more : {t u v : ScannerState} → Reaches t u → u.held.ended ≡ false → fetch u ≡ Ok v → Reaches t v
one_more p e f = reaches_then p (there e f here)

one_step : (t u v : ScannerState) → fetch t ≡ Ok u → fetch t ≡ Ok v → u ≡ v
one_step t u v p q = cc

-- Of two runs from one state one goes on from where the other stands.
pub one_run : {t u v : ScannerState} → Reaches t u → Reaches t v → Reaches u v ⊎ Reaches v u
one_run here q = inl q
one_run (there e f p) here = inr (there e f p)
one_run (there {t = t} {u = u} e f p) (there {u = w} g h q) = one_run p (rw (one_step t w u h f) at q)

-- No run goes on after the stream's end, or after a refusal.
stays : {t u : ScannerState} → Reaches t u → t.held.ended ≡ true → t ≡ u
stays here e = refl
stays (there f g p) e = cc

stops : {t u : ScannerState} {f : Fault} → Reaches t u → fetch t ≡ Err f → t ≡ u
stops here e = refl
stops (there d g p) e = absurd cc

-- A run from the start of a text that has tokens goes on to their end.
pub run_to_end : (a : List ℕ) (ts : List Token) (u : ScannerState) → (z : HasTokens a ts) → Reaches (start a) u → Reaches u z.end
run_to_end a ts u z p = elim (one_run p z.run) [ inl q ↦ q | inr q ↦ rw (stays q z.ended) here ]

-- A text has one list of tokens,
pub one_list : (a : List ℕ) (ts us : List Token) → HasTokens a ts → HasTokens a us → ts ≡ us
one_list a ts us y z = sym y.tokens ∙ ap (λ t. t.held.tokens) (stays (run_to_end a us y.end z y.run) y.ended) ∙ z.tokens

-- or one refusal,
pub one_fault : (a : List ℕ) (e f : Fault) → IsRefused a e → IsRefused a f → e ≡ f
one_fault a e f y z = elim (one_run y.run z.run) [ inl q ↦ same y.last z.last (stops q y.refused) y.refused z.refused | inr q ↦ same y.last z.last (sym (stops q z.refused)) y.refused z.refused ]
  where
    same : (t u : ScannerState) → t ≡ u → fetch t ≡ Err e → fetch u ≡ Err f → e ≡ f
    same t u i p q = cc

not_refused_from : {t u : ScannerState} {f : Fault} → Reaches t u → t.held.ended ≡ false → fetch t ≡ Err f → u.held.ended ≡ true → ⊥
not_refused_from here e g h = cc
not_refused_from (there f i p) e g h = cc

-- and not both.
pub not_refused : (a : List ℕ) (ts : List Token) (f : Fault) → HasTokens a ts → IsRefused a f → ⊥
not_refused a ts f z refusal = not_refused_from (run_to_end a ts refusal.last z refusal.run) refusal.going refusal.refused z.ended
