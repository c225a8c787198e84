-- How calls compose.
use Rattle.yaml_scanner.proofs.Common.{after_char, arith, Becomes, Brings, Err, false, Fault, Fetcher, Fetches, Gets, Held, IsErrAnd, List, Moves, Ok, on_held, once, OnOk, Reads, Reads-then, refl, Result, Runs, ScannerState, skip_indicator, slice_index, state, Steps, true, try_held, Turns, unroll_indent, ℕ, ◌+◌, ◌>>=◌, ◌∙◌, ◌∷◌, ◌≡◌}
use Rattle.yaml_scanner.proofs.ReadsLemmas.{Reads-map, Reads-along, Reads-none}

on_ok : {X E P Q : Type 0} (r : Result X E) → (P → Q) → OnOk r P → OnOk r Q
on_ok (Ok v) f p = f p
on_ok (Err e) f p = tt

pub keeps_of : {T : Type 0} {up down : ℕ} (x y : Fetcher T) → Moves x y up down → Fetches x y
keeps_of x y m = record { given = m.given; over = m.over; fault = m.fault; backlog = m.backlog }

moves_then : {T : Type 0} {u1 d1 u2 d2 : ℕ} (x0 x1 x2 : Fetcher T) → Moves x0 x1 u1 d1 → Moves x1 x2 u2 d2 → Moves x0 x2 (u1 + u2) (d1 + d2)
moves_then x0 x1 x2 m n = grind arith

keeps_then : {T : Type 0} (x0 x1 x2 : Fetcher T) → Fetches x0 x1 → Fetches x1 x2 → Fetches x0 x2
keeps_then x0 x1 x2 m n = record { given = n.given ∙ m.given; over = n.over ∙ m.over; fault = n.fault ∙ m.fault; backlog = n.backlog ∙ m.backlog }

-- by an equation of the model's
pub runs_as : {T X E : Type 0} {f h : ScannerState → Result ScannerState Fault} {up down : ℕ} (x y : Fetcher T) (r : Result X E) → Runs f x r y up down → ((a : List ℕ) → h (state a x) ≡ f (state a x)) → Runs h x r y up down
runs_as x y r m e = record { comes = Reads-map _ _ m.comes (λ a b p. rw (e a) p); run = m.run; bounds = m.bounds }

-- a refusal that `?` hands on
pub runs_exit : {T X Y D E : Type 0} {f h : ScannerState → Result ScannerState Fault} {u1 d1 up down : ℕ} (x y : Fetcher T) (e : D) (z : E) (r : Result X E) → Runs {X = Y} f x (Err e) y u1 d1 → IsErrAnd r (λ w. w ≡ z) → ((a : List ℕ) → h (state a x) ≡ f (state a x)) → Runs h x r y up down
runs_exit x y e z (Ok v) m i g = absurd i
runs_exit x y e z (Err w) m i g = record { comes = Reads-map _ _ m.comes (λ a b p n. g a ∙ p n); run = m.run; bounds = tt }

-- what comes after a refusal does not matter
pub runs_stop : {T X E : Type 0} {f : ScannerState → Result ScannerState Fault} {up down : ℕ} (x y : Fetcher T) (k : ScannerState → Result ScannerState Fault) (e : E) → Runs {X = X} f x (Err e) y up down → Runs {X = X} (λ t. f t >>= k) x (Err e) y up down
runs_stop x y k e m = record { comes = Reads-map _ _ m.comes (λ a b p n. rw (p n) refl); run = m.run; bounds = tt }

-- one after another
pub runs_then : {T X Y D E : Type 0} {f k : ScannerState → Result ScannerState Fault} {u1 d1 u2 d2 : ℕ} (x y z : Fetcher T) (v : Y) (r : Result X E) → Runs {E = D} f x (Ok v) y u1 d1 → Runs k y r z u2 d2 → Runs (λ t. f t >>= k) x r z (u1 + u2) (d1 + d2)
runs_then x y z v r m n = record { comes = Reads-then _ _ _ m.comes n.comes (λ a b d p q. rw p q); run = keeps_then x y z m.run n.run; bounds = on_ok r (moves_then x y z m.bounds) n.bounds }

-- a step that looks at no character
pub step_runs : {T X E : Type 0} {g : Held → Result Held Fault} {up : ℕ} (x y : Fetcher T) (r : Result X E) → Steps g x r y up → Runs (try_held g) x r y up 0
step_runs x y (Ok v) s = record { comes = Reads-along _ _ _ _ refl s.window (Reads-map _ _ (Reads-none x.window) (λ a b p. rw (s.comes, p) refl)); run = keeps_of x y s.bounds; bounds = s.bounds }
step_runs x y (Err e) s = record { comes = Reads-along _ _ _ _ refl s.window (Reads-map _ _ (Reads-none x.window) (λ a b p n. rw (s.comes n) refl)); run = keeps_of x y s.bounds; bounds = tt }

pub becomes_runs : {T X E : Type 0} {g : Held → Held} {up : ℕ} (x y : Fetcher T) (r : Result X E) → Becomes g x r y up → Runs (λ t. Ok (on_held g t)) x r y up 0
becomes_runs x y (Ok v) s = record { comes = Reads-along _ _ _ _ refl s.window (Reads-map _ _ (Reads-none x.window) (λ a b p. rw (s.held, p) refl)); run = keeps_of x y s.bounds; bounds = s.bounds }
becomes_runs x y (Err z) s = record { comes = Reads-along _ _ _ _ refl s.window (Reads-map _ _ (Reads-none x.window) (λ a b p n. absurd (n s.err))); run = keeps_of x y s.bounds; bounds = tt }

-- the levels of a fetch's column end, and nothing else is done
pub unrolled_runs : {T X E : Type 0} (x y z : Fetcher T) (n : ℕ) (v : X) → z ≡ y → n ≡ x.window.col + 1 → Becomes {E = E} (unroll_indent n) x (Ok v) y 0
    → Runs {X = Unit {0}} {E = Fault} (λ t. Ok (on_held (λ s. unroll_indent (s.position.col + 1) s) t)) x (Ok tt) z 0 0
unrolled_runs x y z n v e f b = rw e (becomes_runs x y (Ok tt) (record { held = rw (← f) b.held; err = tt; bounds = b.bounds; window = b.window }))

pub turns_runs : {T : Type 0} {g : Held → Held} (x y : Fetcher T) → Turns g x y → Runs {X = Unit {0}} {E = Fault} (λ t. Ok (on_held g t)) x (Ok tt) y 0 0
turns_runs x y s = becomes_runs x y (Ok tt) (record { held = s.held; err = tt; bounds = s.bounds; window = s.window })

pub indicator_runs : {T : Type 0} (x y : Fetcher T) → y ≡ record x { window = after_char x.window; leading = false } → Reads x.window y.window (λ a b. a ≡ slice_index a 0 ∷ b) → Moves x y 0 8 → Runs {X = Unit {0}} {E = Fault} (λ t. Ok (skip_indicator t)) x (Ok tt) y 0 8
indicator_runs x y e s m = record { comes = Reads-map _ _ s (λ a b p. rw (p, e) refl); run = keeps_of x y m; bounds = m }

-- ---- fetches

pub brings_then : {T X Y D E : Type 0} {f k : ScannerState → Result ScannerState Fault} (x y z : Fetcher T) (v : Y) (r : Result X E) → Runs {E = D} f x (Ok v) y 0 0 → Brings k y r z → Brings (λ t. f t >>= k) x r z
brings_then x y z v r m n = let b = m.bounds in record { comes = Reads-then _ _ _ m.comes n.comes (λ a b d p q. rw p q); less = on_ok r (λ l. omega (arith, b.bound, l)) n.less; run = keeps_then x y z m.run n.run }

pub brings_on : {T X Y D E : Type 0} {f k : ScannerState → Result ScannerState Fault} (x y z : Fetcher T) (v : Y) (r : Result X E) → Brings {E = D} f x (Ok v) y → Runs k y r z 0 0 → Brings (λ t. f t >>= k) x r z
brings_on x y z v r m n = let l = m.less in record { comes = Reads-then _ _ _ m.comes n.comes (λ a b d p q. rw p q); less = on_ok r (λ (b : Moves y z 0 0). omega (arith, b.bound, l)) n.bounds; run = keeps_then x y z m.run n.run }

-- what refuses a step
pub refused : {T X D E : Type 0} {f : ScannerState → Result ScannerState Fault} {up down : ℕ} (x y : Fetcher T) (e : D) (w : E) → Runs {X = X} f x (Err e) y up down → Brings {X = X} f x (Err w) y
refused x y e w m = record { comes = m.comes; less = tt; run = m.run }

pub brings_stop : {T X Y D E : Type 0} {f : ScannerState → Result ScannerState Fault} (x y : Fetcher T) (k : ScannerState → Result ScannerState Fault) (e : D) (w : E) → Brings {X = Y} f x (Err e) y → Brings {X = X} (λ t. f t >>= k) x (Err w) y
brings_stop x y k e w m = record { comes = Reads-map _ _ m.comes (λ a b p n. rw (p n) refl); less = tt; run = m.run }

-- by an equation of the model's
pub gets : {T X E : Type 0} {f h : ScannerState → Result ScannerState Fault} (x y : Fetcher T) (r : Result X E) → Brings f x r y → ((a : List ℕ) → h (state a x) ≡ f (state a x)) → OnOk r (y.tokens.ended ≡ true → y.window.done ≡ true) → Gets h x r y
gets x y r m e d = record { does = once (Reads-map _ _ m.comes (λ a b p. rw (e a) p)); done = d; less = m.less; run = m.run }

pub always : {X E P : Type 0} (r : Result X E) → P → OnOk r P
always (Ok v) p = p
always (Err e) p = tt
