-- Lines and the spaces with which they begin.
use Rattle.yaml_emitter.proofs.Common.{ap, arith, is_low, IsCharBoundary, IsCharBoundary-from_ascii, List, refl, replicate, replicate-append-replicate, spaces, subst, suc, sym, take, take-replicate, true, zero, ℕ, ◌*◌, ◌++◌, ◌+◌, ◌-◌, ◌<◌, ◌∙◌, ◌∷◌, ◌≡◌, ◌≤◌}
use Rattle.yaml_emitter.proofs.ByteLemmas.{low_at}

-- so many spaces
abbrev pub blanks : ℕ → List ℕ
blanks n = replicate n 32

pub low_blanks : (n : ℕ) → is_low (blanks n) ≡ true
low_blanks zero = refl
low_blanks (suc n) = low_blanks n

pub line_of : (n : ℕ) → n ≤ 64 → take (1 + n) (10 ∷ blanks 64) ≡ 10 ∷ blanks n
line_of n h = let e : 1 + n ≡ suc n = omega arith in ap (λ k. take k (10 ∷ blanks 64)) e ∙ ap (λ t. 10 ∷ t) (take-replicate n 64 32 h)

pub line_boundary : (n : ℕ) → n ≤ 64 → IsCharBoundary (10 ∷ blanks 64) (1 + n)
line_boundary n h = IsCharBoundary-from_ascii (10 ∷ blanks 64) (1 + n) (low_at (10 ∷ blanks 64) refl) (omega arith)

-- 64 spaces, and the rest
pub deep_blanks : (n : ℕ) → 64 < n → blanks n ≡ blanks 64 ++ blanks (n - 64)
deep_blanks n h = let e : n ≡ 64 + (n - 64) = omega arith in ap blanks e ∙ sym (replicate-append-replicate 64 (n - 64) 32)

pub deep_line : (n : ℕ) → 64 < n → (10 ∷ blanks 64) ++ blanks (n - 64) ≡ 10 ∷ blanks n
deep_line n h = ap (λ t. 10 ∷ t) (sym (deep_blanks n h))

pub break_boundary : (text : List ℕ) (n : ℕ) → text ≡ 10 ∷ blanks n → IsCharBoundary text 1
break_boundary text n e = subst (λ t. IsCharBoundary t 1) (sym e) (IsCharBoundary-from_ascii (10 ∷ blanks n) 1 (low_at (10 ∷ blanks n) (low_blanks n)) (omega arith))

-- ---- the spaces of a level, which are two for each

pub of_level : (n : ℕ) → blanks (2 * n) ≡ spaces n
of_level zero = refl
of_level (suc n) = let e : 2 * suc n ≡ suc (suc (2 * n)) = omega arith in ap blanks e ∙ ap (λ t. 32 ∷ 32 ∷ t) (of_level n)

pub twice : (n : ℕ) → blanks n ++ blanks n ≡ spaces n
twice n = let e : n + n ≡ 2 * n = omega arith in replicate-append-replicate n n 32 ∙ ap blanks e ∙ of_level n
