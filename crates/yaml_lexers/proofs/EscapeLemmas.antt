-- Lemmas about escapes.
use Rattle.yaml_lexers.proofs.Common.{add-one, after_char, ap, arith, Bool, breaking, Context, digits_from, false, Folded, if◌then◌else◌, inside, is_blank, is_break, List, lit<, named, past, Position, position_of, pow-le-pow_right, pow-succ', quoted_from, Reads, Reads-saw, refl, Sees, Sees-both, slice_index, suc, sym, WindowView, ℕ, ◌*◌, ◌+◌, ◌-◌, ◌<◌, ◌^◌, ◌∙◌, ◌∷◌, ◌≡◌, ◌≤◌}
use Rattle.yaml_lexers.specs.ShownQuoted.{at_folded}

backslash : (ctx : Context) (start : Position) (a : List ℕ) (p : Position) (t : Folded)
    → quoted_from false ctx start (92 ∷ a) (record { mode = inside; position = p; folded = t })
    ≡ quoted_from false ctx start a (record { mode = (if is_break (slice_index a 0) then breaking else named); position = past p; folded = t })
unfolding is_break is_blank
backslash ctx start a p t = refl

-- after a backslash stands a break or what it names
pub backslash_read : {T : Type 0} (old new : WindowView T) (d : ℕ) (breaks : Bool)
    → Sees old (λ a. 92 ≡ slice_index a 0) → Sees old (λ a. d ≡ slice_index a 1) → breaks ≡ is_break d
    → new ≡ after_char old → Reads old new (λ a b. a ≡ slice_index a 0 ∷ b)
    → Reads old new (λ a b. (context : Context) (start : Position) (t : Folded) →
    quoted_from false context start a (at_folded inside old t) ≡ quoted_from false context start b (at_folded (if breaks then breaking else named) new t))
backslash_read old new d breaks here next is state reads =
    Reads-saw old new (Sees-both old here next) reads (λ a b w e context start t.
    let f : a ≡ 92 ∷ b = e ∙ ap (λ x. x ∷ b) (sym w.0) in
    let h : breaks ≡ is_break (slice_index b 0) = is ∙ ap is_break (w.1 ∙ ap (λ x. slice_index x 1) f) in
    rw (state, h, f) (backslash context start b (position_of old) t))

-- one digit fewer is left of a code
pub one_fewer : (single : Bool) (ctx : Context) (start : Position) (left code : ℕ) (a : List ℕ) (p : Position) (t : Folded) → 0 < left
    → digits_from single ctx start left code a p t ≡ digits_from single ctx start (suc (left - 1)) code a p t
one_fewer single ctx start left code a p t some = grind arith

-- at most seven digits of a code, and one more
pub seven_digits : (code left : ℕ) → code < 16 ^ (8 - left) → 0 < left → code < 268435456
seven_digits code left small some =
    let fewer : 8 - left ≤ 7 = omega (arith, some) in
    let positive : 0 < 16 = lit< tt in
    let most : 16 ^ (8 - left) ≤ 16 ^ 7 = pow-le-pow_right {n = 16} positive fewer in
    let big : 16 ^ 7 ≡ 268435456 = refl in
    omega arith

pub one_more_fits : (code digit left : ℕ) → code < 16 ^ (8 - left) → 0 < left → left ≤ 8 → digit < 16 → code * 16 + digit < 16 ^ (8 - (left - 1))
one_more_fits code digit left small some few fits =
    let e : 8 - (left - 1) ≡ (8 - left) + 1 = omega (arith, some, few) in
    let more : 16 ^ ((8 - left) + 1) ≡ 16 * 16 ^ (8 - left) = rw add-one (pow-succ' 16 (8 - left)) in
    rw e (omega arith)
