-- Lemmas about the first fetch.
use Rattle.yaml_scanner.proofs.Common.{ap, begin_stream, Err, false, fetch, fetch_next, fetch_stream_start, Fetched, Fetcher, Held, held, IfErr, Ok, once, OnOk, OutOfMemory, refl, Result, Sees, state, true, ◌≡◌}
use Rattle.yaml_scanner.proofs.ReadsLemmas.{Reads-along, Reads-map, Reads-none}

pub going : {T : Type 0} (x : Fetcher T) → x.started ≡ true → Sees x.window (λ a. fetch (state a x) ≡ fetch_next (state a x))
unfolding fetch
going x e = record { sees = λ w p. rw e refl }

pub begun_does : {T X E : Type 0} (x y : Fetcher T) (r : Result X E) → y.window ≡ x.window → x.started ≡ false → OnOk r (held y ≡ begin_stream (held x)) → IfErr r (λ _. y.fault ≡ OutOfMemory) → Fetched fetch x r y
unfolding fetch fetch_stream_start
begun_does x y (Ok v) w s e f = once (Reads-along _ _ _ _ refl w (Reads-map _ _ (Reads-none x.window) (λ a b p. rw (p, s, e) refl)))
begun_does x y (Err z) w s e f = once (Reads-along _ _ _ _ refl w (Reads-map _ _ (Reads-none x.window) (λ a b p n. absurd (n f))))

pub begun_open : {T X E : Type 0} (x y : Fetcher T) (r : Result X E) → x.tokens.ended ≡ false → OnOk r (held y ≡ begin_stream (held x)) → OnOk r (y.tokens.ended ≡ true → y.window.done ≡ true)
begun_open x y (Ok v) n e = λ d. absurd (let p : y.tokens.ended ≡ x.tokens.ended = ap (λ (h : Held). h.ended) e in cc)
begun_open x y (Err w) n e = tt
