-- Lemmas about spaces and runs of characters.
use Rattle.model_scanner.proofs.Common.{[], are_skipped, arith, Bool, comment, comment_after, ends_while, false, Line, List, nat_tests, Ok, past, Position, refl, skip_while, SkipTabs, slice_index, space_from, stops, sym, take_while, true, Whitespace, ℕ, ◌&&◌, ◌==◌, ◌∷◌, ◌≡◌}
use Rattle.model_scanner.proofs.RunLemmas.{no_break}

-- where no character of the kind stands
pub skip_end : (test : ℕ → Bool) (a : List ℕ) (p : Position) → ends_while test a ≡ true → skip_while test a p ≡ record { rest = a; position = p; value = tt }
skip_end test [] p h = refl
skip_end test (c ∷ a) p h = grind arith

pub take_end : (test : ℕ → Bool) (a : List ℕ) (p : Position) (t : List ℕ) → ends_while test a ≡ true → take_while test a p t ≡ record { rest = a; position = p; value = t }
take_end test [] p t h = refl
take_end test (c ∷ a) p t h = grind arith

-- a comment goes on with a character of its line, and ends where the line does
pub comment_on : (c : ℕ) (a b : List ℕ) (p : Position) → a ≡ c ∷ b → stops Line c ≡ false → comment a p ≡ comment b (past p)
unfolding stops
comment_on c a b p e goes = let line = no_break c goes in rw (e, line) refl

pub comment_end : (c : ℕ) (a : List ℕ) (p : Position) → c ≡ slice_index a 0 → (c ≡ 0 → a ≡ []) → stops Line c ≡ true → comment a p ≡ record { rest = a; position = p; value = tt }
unfolding stops
comment_end c [] p e none ends = refl
comment_end c (d ∷ a) p e none ends = grind (arith, nat_tests)

-- where neither a space, nor a TAB to be skipped, nor a comment stands
pub spaces_stop : (tabs : SkipTabs) (c : ℕ) (a : List ℕ) (p : Position) (w : Whitespace) → c ≡ slice_index a 0 → (c == 32) ≡ false → ((c == 9) && are_skipped tabs) ≡ false → (c == 35) ≡ false
    → space_from tabs a (record { position = p; found = w }) ≡ Ok (record { rest = a; position = p; value = w })
spaces_stop tabs c [] p w e space tab hash = refl
spaces_stop tabs c (d ∷ a) p w e space tab hash =
    let s : (d == 32) ≡ false = rw e at space in
    let t : ((d == 9) && are_skipped tabs) ≡ false = rw e at tab in
    let h : (d == 35) ≡ false = rw e at hash in
    rw (s, t, h) refl

-- at a comment
pub at_comment : (tabs : SkipTabs) (a : List ℕ) (p : Position) (w : Whitespace) → 35 ≡ slice_index a 0
    → space_from tabs a (record { position = p; found = w }) ≡ comment_after w a p
at_comment tabs [] p w e = cc
at_comment tabs (d ∷ a) p w e = rw (sym e) refl
