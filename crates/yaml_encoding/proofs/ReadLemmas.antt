-- Lemmas about an input that is read up to a position.
use Rattle.yaml_encoding.proofs.Common.{[], ap, arith, chosen, drop, drop-drop, drop_all, Encoding, front, go_on, inl, inr, IsDecodedByCalls, IsRead, length, length-drop, List, Message, None, OutOfMemory, part_by, parts_from, reading, refl, Sequence, Some, Stepped, Steps, Stop, StopIs, stopped, text, ℕ, ◌++◌, ◌+◌, ◌-◌, ◌<◌, ◌∙◌, ◌∷◌, ◌≡◌, ◌≤◌}
use Rattle.yaml_encoding.proofs.PartsLemmas.{parts_from-front, front-bytes}

-- after the mark
pub read_start : (step : Steps) (e : Encoding) (input : List ℕ) (mark : ℕ) (so_far : List ℕ) → chosen input ≡ record { encoding = e; mark = mark } → so_far ≡ [] → IsRead step e input mark so_far
read_start step e input mark so_far c n = record { goes = λ o h. rw c (rw n at h) }

-- the parts from a position on
parts_at : (e : Encoding) (input : List ℕ) (at : ℕ) (s : Sequence) → at < length input → s ≡ front (reading e) (drop at input)
    → parts_from (reading e) 0 at (drop at input) ≡ part_by at (drop at input) (s.bytes) (s.ahead) (s.character) ∷ parts_from (reading e) 0 (at + s.bytes) (drop (at + s.bytes) input)
parts_at e input at s in_range f =
    parts_from-front e at (drop at input) s (omega (arith, length-drop at input)) f
    ∙ ap (λ r. part_by at (drop at input) (s.bytes) (s.ahead) (s.character) ∷ parts_from (reading e) 0 (at + s.bytes) r) (drop-drop (s.bytes) at input)

-- how many bytes a sequence takes
pub takes : (e : Encoding) (input : List ℕ) (at : ℕ) (s : Sequence) (rest : List ℕ) → rest ≡ drop at input → at < length input
    → s ≡ front (reading e) rest
    → (1 ≤ s.bytes) × (s.bytes ≤ length rest) × (at + s.bytes ≤ length input)
takes e input at s rest is_rest in_range is_front =
    let l : length rest ≡ length input - at = ap (λ r. length r) is_rest ∙ length-drop at input in
    let t = front-bytes e rest s (omega arith) is_front in (t.0, t.1, omega arith)

module _ (step : Steps) (e : Encoding) (input : List ℕ) (at : ℕ) (so_far : List ℕ) (s : Sequence) (rest : List ℕ)
    (is_rest : rest ≡ drop at input) (in_range : at < length input) (is_front : s ≡ front (reading e) rest) where
  here : s ≡ front (reading e) (drop at input)
  here = rw (← is_rest) is_front

  -- over a character
  pub passes_character : (next : List ℕ) (c after : ℕ) → s.character ≡ Some c → next ≡ so_far ++ c ∷ [] → after ≡ at + s.bytes
      → (at < after) × (after ≤ length input) × (IsRead step e input at so_far → IsRead step e input after next)
  passes_character next c after g n b =
      let t = takes e input at s rest is_rest in_range is_front in
      (omega arith, omega arith, λ r. record { goes = λ o h. r.goes o (rw (parts_at e input at s in_range here) (rw g (rw (n, b) at h))) })

  -- over a malformation
  pub passes_malformation : (next : List ℕ) (after : ℕ) → s.character ≡ None → step (s.bytes) (s.ahead) rest so_far (go_on next) → after ≡ at + s.bytes
      → (at < after) × (after ≤ length input) × (IsRead step e input at so_far → IsRead step e input after next)
  passes_malformation next after g taken b =
      let t = takes e input at s rest is_rest in_range is_front in
      let taken_here = rw is_rest at taken in
      (omega arith, omega arith, λ r. record { goes = λ o h. r.goes o (rw (parts_at e input at s in_range here) (rw g (inl (next, taken_here, rw b at h)))) })

  -- to a stop
  pub passes_stop : (stop : Stop) → s.character ≡ None → StopIs stop (Stepped step at (s.bytes) (s.ahead) rest so_far) → IsRead step e input at so_far → StopIs stop (IsDecodedByCalls step input)
  passes_stop (Message m) g h r =
      let h_here = rw is_rest at h in
      r.goes _ (rw (parts_at e input at s in_range here) (rw g (inr (h_here.0, h_here.1, ap stopped h_here.2))))
  passes_stop OutOfMemory g h r = tt

-- to the end
pub read_end : (step : Steps) (e : Encoding) (input : List ℕ) (at : ℕ) (so_far : List ℕ) → IsRead step e input at so_far → length input ≤ at → IsDecodedByCalls step input (text so_far)
read_end step e input at so_far r end = r.goes _ (rw (drop_all at input end) refl)
