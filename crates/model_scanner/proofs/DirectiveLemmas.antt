-- Lemmas about the scan of a directive.
use Rattle.std.proofs.Math.Nat.{pow-le-pow_right}
use Rattle.model_scanner.proofs.Common.{[], arith, At, Digits, digits_end, directive_break, Err, false, is_break, is_digit, linebreak, List, lit<, nat_tests, number_from, Ok, Position, refl, slice_index, true, ℕ, ◌<◌, ◌^◌, ◌∷◌, ◌≡◌, ◌≢◌, ◌≤◌}
use Rattle.yaml_tokens.specs.declared.problem.Problem.TheVariants as problem

-- at most eight digits are a small number
pub nine_digits : (v n : ℕ) → v < 10 ^ n → n ≤ 9 → n ≢ 9 → v < 100000000
nine_digits v n h few other =
    let fewer : n ≤ 8 = omega arith in
    let positive : 0 < 10 = lit< tt in
    let most : 10 ^ n ≤ 10 ^ 8 = pow-le-pow_right {n = 10} positive fewer in
    let big : 10 ^ 8 ≡ 100000000 = refl in
    omega arith

-- where no digit stands
pub digits_stop : (start : Position) (c : ℕ) (a : List ℕ) (s : Digits) → c ≡ slice_index a 0 → is_digit c ≡ false
    → number_from start a s ≡ digits_end start (Ok (record { rest = a; state = s }))
digits_stop start c [] s e h = refl
digits_stop start c (d ∷ a) s e h = let g : is_digit d ≡ false = rw e at h in rw g refl

-- where a tenth digit stands
pub too_long : (start : Position) (c : ℕ) (a : List ℕ) (s : Digits) → c ≡ slice_index a 0 → c ≢ 0 → is_digit c ≡ true → s.length ≡ 9
    → number_from start a s ≡ Err (At problem.VersionTooLong start)
too_long start c [] s e some h nine = absurd (some e)
too_long start c (d ∷ a) s e some h nine = let g : is_digit d ≡ true = rw e at h in rw (g, nine) refl

pub break_stands : (start : Position) (c : ℕ) (a : List ℕ) (p : Position) → c ≡ slice_index a 0 → is_break c ≡ true → directive_break start a p ≡ Ok (linebreak a p)
unfolding directive_break is_break
break_stands start c [] p e h = grind (arith, nat_tests)
break_stands start c (d ∷ a) p e h = let g : is_break d ≡ true = rw e at h in rw g refl

pub break_fails : (start : Position) (c : ℕ) (a : List ℕ) (p : Position) → c ≡ slice_index a 0 → c ≢ 0 → is_break c ≡ false → directive_break start a p ≡ Err (At problem.DirectiveEnd start)
unfolding directive_break
break_fails start c [] p e some h = absurd (some e)
break_fails start c (d ∷ a) p e some h = let g : is_break d ≡ false = rw e at h in rw g refl
