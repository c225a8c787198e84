-- Lemmas about runs that are taken from a source.
use Rattle.std.proofs.lemmas.List.{nil_from_length}
use Rattle.yaml_chars.proofs.Common.{[], ap, arith, Bool, false, Fills, GoesOn, GoesOver, is_blank, is_break, length, List, Position, Pulled, Pulls, ran, Reads, refl, Run, slice_index, stops, sym, true, ℕ, ◌++◌, ◌+◌, ◌∙◌, ◌∷◌, ◌≡◌, ◌≢◌}
pub use Rattle.yaml_chars.proofs.WindowViewLemmas.{Reads-map}
use Rattle.yaml_chars.proofs.WindowViewLemmas.{Fills-more, Fills-taken, Reads-ahead, Reads-more, Reads-taken, Reads-then, view}

pub ran_on : (run : Run) (c : ℕ) (a b : List ℕ) (p : Position) (t : List ℕ) → a ≡ c ∷ b → stops run c ≡ false
    → ran run a p t ≡ ran run b (record { index = p.index + 1; line = p.line; col = p.col + 1 }) (t ++ c ∷ [])
ran_on run c a b p t e goes = rw (e, goes) refl

-- a run goes on by one character
pub GoesOn-more : {T : Type 0} {run : Run} {old s next : Pulled T} {n c : ℕ} {before t : List ℕ}
    → GoesOn run old s n before t → Pulls s c next → stops run c ≡ false → c ≢ 0 → GoesOn run old next (n + 1) before (t ++ c ∷ [])
GoesOn-more {run = run} {n = n} {c = c} on pulls goes some = record {
  left = let more = pulls.char some in omega (arith, on.left, more.3);
  fills = λ at line col f.
      let here : at + (n + 1) ≡ (at + n) + 1 = omega arith in
      let there : col + (n + 1) ≡ (col + n) + 1 = omega arith in
      rw (here, there) (Fills-taken (on.fills at line col f) pulls some refl);
  reads = λ at line col f.
      let here : at + (n + 1) ≡ (at + n) + 1 = omega arith in
      let there : col + (n + 1) ≡ (col + n) + 1 = omega arith in
      rw (here, there) (Reads-then _ _ _ (on.reads at line col f) (Reads-taken (on.fills at line col f) pulls some refl 0 0)
      (λ a b d e g. e ∙ ran_on run c b d _ _ g goes));
}

-- a run goes on until a character comes with which it does not, or memory is refused
pub GoesOn-over : {T : Type 0} {run : Run} {old s new : Pulled T} {n c : ℕ} {refused : Bool} {before t : List ℕ}
    → GoesOn run old s n before t → Pulls s c new → (refused ≡ false → stops run c ≡ true) → GoesOver run old new n c refused before t
GoesOn-over on pulls stop = record { last = _; goes = on; later = pulls; stops = stop }

-- a run ends at the end of the text
pub stops_nul : (run : Run) → stops run 0 ≡ true
unfolding stops is_blank is_break
stops_nul a = grind arith

-- no character of a run came yet
GoesOn-none : {T : Type 0} (run : Run) (s : Pulled T) (t : List ℕ) → GoesOn run s s 0 t t
GoesOn-none run s t = grind arith

-- at the end of the text no run goes on
pub GoesOver-ended : {T : Type 0} (run : Run) (s : Pulled T) (t : List ℕ) → s.done ≡ true → s.left ≡ 0 → GoesOver run s s 0 0 false t t
GoesOver-ended run s t done none = record {
  last = s;
  goes = GoesOn-none run s t;
  later = record { start = refl; ends = λ _. (refl, done, none); char = λ h. absurd (h refl) };
  stops = λ _. stops_nul run;
}

-- a run stops before what ends it
pub ran_stops : (run : Run) (b : List ℕ) (p : Position) (t : List ℕ) → stops run (slice_index b 0) ≡ true → ran run b p t ≡ record { rest = b; position = p; text = t }
ran_stops run [] p t h = refl
ran_stops run (c ∷ b) p t h = rw h refl

module _ {T : Type 0} {run : Run} {s : Pulled T} {ring : List ℕ} {at line col : ℕ} {new : Pulled T} {n c : ℕ} {refused : Bool}
    {before after : List ℕ} (fills : Fills s ring at line col) (none : length ring ≡ 0)
    (over : GoesOver run s new n c refused before after) where
  empty : Fills s [] at line col
  empty = rw (nil_from_length ring none) at fills

  last_fills : Fills (over.last) [] (at + n) line (col + n)
  last_fills = over.goes.fills at line col empty

  -- what ended the run is in the window, where that was empty
  pub Fills-over : Fills new (ring ++ c ∷ []) (at + n) line (col + n)
  Fills-over = rw (nil_from_length ring none) (Fills-more last_fills over.later)

  pub Reads-over : (h k : ℕ) → Reads (view s at line col h) (view new (at + n) line (col + n) k) (λ a b.
      (ran run a (record { index = at; line = line; col = col }) before ≡ ran run b (record { index = at + n; line = line; col = col + n }) after) × (slice_index b 0 ≡ c))
  Reads-over h k = Reads-then _ _ _ (Reads-ahead _ _ h (over.goes.reads at line col empty)) (Reads-more last_fills over.later 0 k)
      (λ a b d e f.
      (e ∙ ap (λ x. ran run x (record { index = at + n; line = line; col = col + n }) after) (sym f.0), f.1 refl))

  -- where memory was there, the run ended
  pub Ran-over : (h k : ℕ) → refused ≡ false → Reads (view s at line col h) (view new (at + n) line (col + n) k) (λ a b.
      ran run a (record { index = at; line = line; col = col }) before ≡ record { rest = b; position = record { index = at + n; line = line; col = col + n }; text = after })
  Ran-over h k given = Reads-map _ _ (Reads-over h k) (λ a b e. e.0 ∙ ran_stops run b _ after (rw e.1 (over.stops given)))
