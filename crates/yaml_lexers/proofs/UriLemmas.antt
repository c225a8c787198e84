-- Lemmas about the octets of a URI's escaped characters.
use Rattle.yaml_lexers.proofs.Common.{ap, arith, Bool, le_trans, List, lit<, mul-le-mul_left, mul-le-mul_right, mul_assoc, nat_le, nat_lt, nat_tests, Octet, octet_from, percent, Position, pow-le-pow_right, pow-succ', refl, suc, sym, trail, trails_from, true, uri_from, ℕ, ◌*◌, ◌+◌, ◌-◌, ◌<◌, ◌^◌, ◌∙◌, ◌≡◌, ◌≤◌}

-- the bits before an octet leave room for its six
pub bits_fit : (code left : ℕ) → (code + 1) * 64 ^ left ≤ 2 ^ 21 → 0 < left → code < 2 ^ 20
bits_fit code left fits some =
    let positive : 0 < 64 = lit< tt in
    let one : 1 ≤ left = omega (arith, some) in
    let power : 64 ^ 1 ≤ 64 ^ left = pow-le-pow_right {n = 64} positive one in
    let more : (code + 1) * 64 ^ 1 ≤ (code + 1) * 64 ^ left = mul-le-mul_left (code + 1) power in
    let first : 64 ^ 1 ≡ 64 = refl in
    let room : (code + 1) * 64 ≤ 2 ^ 21 = rw first at (le_trans more fits) in
    omega (arith, room)

pub more_bits_fit : (code more left : ℕ) → (code + 1) * 64 ^ left ≤ 2 ^ 21 → 0 < left → more < (code + 1) * 64 → (more + 1) * 64 ^ (left - 1) ≤ 2 ^ 21
more_bits_fit code more left fits some small =
    let e : left ≡ suc (left - 1) = omega (arith, some) in
    let power : 64 ^ left ≡ 64 * 64 ^ (left - 1) = ap (λ k. 64 ^ k) e ∙ pow-succ' 64 (left - 1) in
    let next : more + 1 ≤ (code + 1) * 64 = omega (arith, small) in
    let grown : (more + 1) * 64 ^ (left - 1) ≤ (code + 1) * 64 * 64 ^ (left - 1) = mul-le-mul_right (64 ^ (left - 1)) next in
    let all : (code + 1) * 64 * 64 ^ (left - 1) ≡ (code + 1) * 64 ^ left = mul_assoc (code + 1) 64 (64 ^ (left - 1)) ∙ sym (ap (λ k. (code + 1) * k) power) in
    le_trans (rw all at grown) fits

-- an octet that goes on with a character adds its six bits
pub trail_read : (test : ℕ → Bool) (start : Position) (left code least n : ℕ) (a b : List ℕ) (p q : Position) (t : List ℕ) → 0 < left → 128 ≤ n → n < 192
    → ((o : Octet) → uri_from test start a (record { mode = percent o; position = p; text = t }) ≡ octet_from test start o n b q t)
    → trails_from test start left code least a p t ≡ trails_from test start (left - 1) (code * 64 + (n - 128)) least b q t
trail_read test start left code least n a b p q t some low high reads = grind arith
