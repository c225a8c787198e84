-- What the model passes after a `?` is a separation.
use Rattle.proof_lexers.proofs.Common.{[], after_separation, ap, At, begins_white_space, begins_with, Bool, cases_Bool, false, Fault, has_break, Held, inl, inr, is_blank, is_break, is_separation, List, misses, moved, not, not-true, position_after, position_past, reads, refl, refuses, Result, ScannerState, sym, true, white, white_end, WhiteSpaceIsPassed, ℕ, ◌++◌, ◌==◌, ◌||◌, ◌∙◌, ◌∷◌, ◌≡◌, subst, arith, WhitespaceExpected, same_break}
use Rattle.defs_text.specs.Classes as classes
use Rattle.proof_lexers.proofs.Plain.Found.{begins_break}
use Rattle.proof_lexers.proofs.Plain.Turns.{or_true}
use Rattle.proof_lexers.proofs.Separation.Separations.{stayed, Walks, gone, failed, WalksOn, Fills, Keeps, on_line, broken, fills_break, fills_comment, fills_hash, fills_blank}

no_break_at : (rest : List ℕ) → begins_white_space rest ≡ false → begins_break rest ≡ false
no_break_at r h = grind arith

-- Neither a space nor a break stands there, nor after a comment. A mode says whether it is in a comment, and whether it is after a space or a break.
data Misses (m : Bool × Bool) (s : Held) (a : List ℕ) : Fault → Type 0 where
  missed : (separation rest : List ℕ) → m.1 ≡ false → a ≡ separation ++ rest → is_separation m.0 separation rest ≡ true → (m.0 || not (begins_with 32 a)) ≡ true → has_break separation ≡ false → begins_white_space rest ≡ false
      → Misses m s a (At WhitespaceExpected (position_after s.position separation rest))

abbrev in_comment : Bool × Bool → Bool
in_comment m = m.0

abbrev go : Bool × Bool → List ℕ → Held → Result ScannerState Fault
go m a s = white m.0 m.1 a s

abbrev Goes : Bool × Bool → Held → List ℕ → Result ScannerState Fault → Type 0
Goes m s a x = Walks in_comment begins_white_space no_break_at go Misses m s a x

abbrev Passed : List ℕ → Type 0
Passed a = WalksOn in_comment begins_white_space no_break_at go Misses a

-- A space or a break is found at a character, or it begins or continues a comment.
still_missed : (m n : Bool × Bool) (s : Held) (c : ℕ) (a : List ℕ) (b k : Bool) → Fills in_comment begins_white_space no_break_at go Misses m n c → (n.1 ≡ false → (m.1 ≡ false) × (classes.is_break c ≡ false) × ((m.0 || not (c == 32)) ≡ true))
    → Keeps in_comment begins_white_space no_break_at go Misses m n s c a b k
still_missed m n s c a b k fills founds f (missed separation rest none cut is here breaks ends) =
    let z = founds none in
    subst (λ r. Misses m s (c ∷ a) (At WhitespaceExpected (position_after (position_past s.position c r) separation rest))) (sym cut) (missed (c ∷ separation) rest z.0 (ap (λ r. c ∷ r) cut) (fills separation rest is) z.2 (rw z.1 breaks) ends)

step : (m n : Bool × Bool) (s : Held) (c : ℕ) (a : List ℕ) → is_break c ≡ false → Fills in_comment begins_white_space no_break_at go Misses m n c → (n.1 ≡ false → (m.1 ≡ false) × ((m.0 || not (c == 32)) ≡ true)) → Passed a
    → Goes m s (c ∷ a) (white n.0 n.1 a (moved s))
step m n s c a e fills founds ih =
    on_line in_comment begins_white_space no_break_at go Misses m n s c a s.leading e fills (still_missed m n s c a s.leading s.key_allowed fills (λ none. let z = founds none in (z.0, same_break c ∙ e, z.1))) ih

at_end : (f : Bool) (s : Held) (a : List ℕ) (i : Bool) → is_separation i [] a ≡ true → (i || not (begins_with 32 a)) ≡ true → begins_white_space a ≡ false → Goes (i, f) s a (white_end f a s)
at_end true s a i is here ends = gone s.leading [] a refl is ends (stayed s a)
at_end false s a i is here ends = failed _ (missed [] a refl refl is here refl ends) refl

passed : (a : List ℕ) → Passed a
unfolding white is_blank
passed [] (i, f) s = at_end f s [] i (or_true (not i)) (or_true i) refl
passed (c ∷ a) (i, f) s = elim (cases_Bool (is_break c)) [
  | inl e ↦ rw e (broken in_comment begins_white_space no_break_at go Misses (i, f) (false, true) s c a e refl (λ b k g. still_missed (i, f) (false, true) s c a b k (λ separation rest h. fills_break i c separation rest e h) (λ none. cc) g) (passed a))
  | inr e ↦ elim i as (λ j. Goes (j, f) s (c ∷ a) (white j f (c ∷ a) s)) [
    | true ↦ rw e (step (true, f) (true, f) s c a e (λ separation rest k. fills_comment c separation rest e k) (λ none. (none, refl)) (passed a))
    | false ↦ elim (cases_Bool (c == 32)) [
      | inl g ↦ rw (e, g) (step (false, f) (false, true) s c a e (λ separation rest k. fills_blank c separation rest (rw g refl) k) (λ none. cc) (passed a))
      | inr g ↦ elim (cases_Bool (c == 35)) [
        | inl h ↦ rw (e, g, h) (step (false, f) (true, f) s c a e (λ separation rest k. fills_hash c separation rest h k) (λ none. (none, rw g refl)) (passed a))
        | inr h ↦ let still : classes.is_break c ≡ false = same_break c ∙ e in rw (e, g, h) (at_end f s (c ∷ a) false refl (rw g refl) (rw (g, still, h) refl))
      ]
    ]
  ]
]

pub white_space_is_passed : WhiteSpaceIsPassed
white_space_is_passed s text = elim (passed text (false, false) s) [
  | gone leading separation rest cut is ends e ↦ reads (after_separation s leading separation rest) (record { is_leading = leading; separation = separation; cut = cut; is_filled = is; solid = ends; is_state = refl }) e
  | failed f (missed separation rest none cut is here breaks ends) e ↦ refuses _ (misses separation rest cut is (not-true (begins_with 32 text) here) breaks ends) e
]
