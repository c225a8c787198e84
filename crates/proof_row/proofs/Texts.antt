-- Characters that end a piece, and the texts before and after a run.
use Rattle.std.proofs.Common.{[], Bool, List, refl, true, ℕ, ◌++◌, ◌∷◌, ◌≡◌, arith}
use Rattle.defs_text.specs.Tags.{after, all_of, leading}
use Rattle.defs_text.specs.Text.{has_no_nul}
unfoldable use Rattle.defs_text.specs.Classes.{is_blank, is_blank_or_end, is_break, is_flow, is_nul}
use Rattle.proof_row.proofs.Runs.{both, joined}

-- ---- characters

-- what holds of the five characters of a gap
pub gaps : (P : ℕ → Type 0) (c : ℕ) → is_blank_or_end c ≡ true → P 32 → P 9 → P 10 → P 13 → P 0 → P c
unfolding is_blank_or_end is_blank is_break is_nul
gaps a c h p32 p9 p10 p13 p0 = grind arith

-- what holds of the five indicators of flow collections
pub flows : (P : ℕ → Type 0) (c : ℕ) → is_flow c ≡ true → P 44 → P 91 → P 93 → P 123 → P 125 → P c
unfolding is_flow
flows a c h p44 p91 p93 p123 p125 = grind arith

-- ---- texts

pub no_nul_after : (p x : List ℕ) → has_no_nul (p ++ x) ≡ true → has_no_nul x ≡ true
no_nul_after [] x h = h
no_nul_after (c ∷ p) x h = no_nul_after p x (both _ _ h).1

pub leading_after : (class : ℕ → Bool) (r : List ℕ) → leading class r ++ after class r ≡ r
leading_after class [] = refl
leading_after class (c ∷ r) = grind (arith, leading_after class r)

pub all_leading : (class : ℕ → Bool) (r : List ℕ) → all_of class (leading class r) ≡ true
all_leading class [] = refl
all_leading class (c ∷ r) = grind (arith, all_leading class r)

pub all_weaker : (class wider : ℕ → Bool) → ((c : ℕ) → class c ≡ true → wider c ≡ true) → (r : List ℕ) → all_of class r ≡ true → all_of wider r ≡ true
all_weaker class wider f [] h = refl
all_weaker class wider f (c ∷ r) h = joined _ _ (f c (both _ _ h).0) (all_weaker class wider f r (both _ _ h).1)

pub all_append : (class : ℕ → Bool) (r s : List ℕ) → all_of class r ≡ true → all_of class s ≡ true → all_of class (r ++ s) ≡ true
all_append class [] s h k = k
all_append class (c ∷ r) s h k = joined _ _ (both _ _ h).0 (all_append class r s (both _ _ h).1 k)
