-- Separations, one after another.
use Rattle.proof_scanner.proofs.Common.{[], and_parts, Bool, false, has_no_break, is_blank, is_break, is_gap, is_nul, is_separation, is_white, List, not, refl, true, ℕ, ◌++◌, ◌==◌, ◌∷◌, ◌≡◌, arith, nat_tests}

pub no_break_append : (a b : List ℕ) → has_no_break a ≡ true → has_no_break b ≡ true → has_no_break (a ++ b) ≡ true
no_break_append [] b h k = k
no_break_append (c ∷ a) b h k = let q = and_parts (not (is_break c)) (has_no_break a) h in rw q.0 (no_break_append a b q.1 k)

-- two separations are one
pub separation_append : (in_comment : Bool) (f g n : List ℕ) → is_separation in_comment f (g ++ n) ≡ true → is_separation false g n ≡ true → is_separation in_comment (f ++ g) n ≡ true
unfolding is_nul is_blank is_break
separation_append false [] g n h k = k
separation_append true [] [] n h k = h
separation_append true [] (c ∷ g) n h k = grind (arith, nat_tests)
separation_append true (c ∷ f) g n h k = separation_append (not (is_break c)) f g n h k
separation_append false (c ∷ f) g n h k = grind (arith, separation_append (c == 35) f g n)

pub white_is_no_hash : (c : ℕ) → is_white c ≡ true → (c == 35) ≡ false
unfolding is_blank is_break
white_is_no_hash c h = grind (arith, nat_tests)

-- blanks and breaks are a separation
pub gap_is_separation : (gap rest : List ℕ) → is_gap gap ≡ true → is_separation false gap rest ≡ true
gap_is_separation [] rest h = refl
gap_is_separation (c ∷ gap) rest h = grind (arith, white_is_no_hash, gap_is_separation gap rest)
