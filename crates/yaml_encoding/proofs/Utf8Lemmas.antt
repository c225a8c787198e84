-- Lemmas about sequences of UTF-8.
use Rattle.std.specs.Char.{IsScalar}
use Rattle.yaml_encoding.proofs.Common.{[], any_trail, arith, Bool, bounds, cond, drop-cons, drop_all, false, front, get_or, is_between, Leads, length, List, malformed, nat_tests, None, Option, refl, Some, Start, start_of, subst, suc, Trails, true, utf_8_sequence, zero, ℕ, ◌*◌, ◌+◌, ◌-◌, ◌<◌, ◌∷◌, ◌≡◌, ◌≤◌, ◌⊎◌}

below : (c : ℕ) → c < 0xD800 → IsScalar c
below c h = grind (arith, nat_tests)

above : (c : ℕ) → 0xE000 ≤ c → c ≤ 0x10FFFF → IsScalar c
above c h k = grind (arith, nat_tests)

within : (low high b : ℕ) → is_between low high b ≡ true → (low ≤ b) × (b ≤ high)
within low high b e = grind (arith, nat_tests)

-- a first byte and one trail
one_trail : (bits : ℕ) → bits ≤ 0x1F → Leads bits (any_trail ∷ [])
one_trail bits few = (omega arith, λ b h. let w = within _ _ b h in below (bits * 64 + (b - 0x80)) (omega arith))

-- a first byte and two trails, below the surrogates and above them
two_below : (bits low high : ℕ) → bits < 0x20000 → bits * 64 + (high - 0x80) < 0x360 → Leads bits (record { low = low; high = high } ∷ any_trail ∷ [])
two_below bits low high few less =
    (omega arith, λ b h. let w = within _ _ b h in (omega arith, λ c k. let v = within _ _ c k in below ((bits * 64 + (b - 0x80)) * 64 + (c - 0x80)) (omega arith)))

two_above : (bits low high : ℕ) → bits ≤ 0xF → 0x380 ≤ bits * 64 + (low - 0x80) → high ≤ 0xBF → Leads bits (record { low = low; high = high } ∷ any_trail ∷ [])
two_above bits low high few more top =
    (omega arith, λ b h. let w = within _ _ b h in (omega arith, λ c k. let v = within _ _ c k in above ((bits * 64 + (b - 0x80)) * 64 + (c - 0x80)) (omega arith) (omega arith)))

-- a first byte and three trails
three_trails : (bits low high : ℕ) → bits ≤ 4 → 0x10 ≤ bits * 64 + (low - 0x80) → bits * 64 + (high - 0x80) ≤ 0x10F → Leads bits (record { low = low; high = high } ∷ any_trail ∷ any_trail ∷ [])
three_trails bits low high few more top = (
  omega arith,
  λ b h. let w = within _ _ b h in (
    omega arith,
    λ c k. let v = within _ _ c k in
        (omega arith, λ d j. let u = within _ _ d j in above (((bits * 64 + (b - 0x80)) * 64 + (c - 0x80)) * 64 + (d - 0x80)) (omega arith) (omega arith)),
  ),
)

-- what a first byte begins leads to characters, if it begins anything
abbrev LeadsOn : Option Start → Type 0
LeadsOn None = Unit {0}
LeadsOn (Some s) = Leads s.bits s.after

by_test : (t : Bool) (x y : Option Start) → (t ≡ true → LeadsOn x) → (t ≡ false → LeadsOn y) → LeadsOn (cond t x y)
by_test true x y f g = f refl
by_test false x y f g = g refl

all_lead : (b : ℕ) → LeadsOn (start_of b)
unfolding start_of
all_lead b =
    by_test (is_between 0x00 0x7F b) _ _ (λ h. let w = within 0x00 0x7F b h in below b (omega arith)) (λ _.
    by_test (is_between 0xC2 0xDF b) _ _ (λ h. let w = within 0xC2 0xDF b h in one_trail (b - 0xC0) (omega arith)) (λ _.
    by_test (is_between 0xE0 0xE0 b) _ _ (λ h. let w = within 0xE0 0xE0 b h in two_below (b - 0xE0) 0xA0 0xBF (omega arith) (omega arith)) (λ _.
    by_test (is_between 0xE1 0xEC b) _ _ (λ h. let w = within 0xE1 0xEC b h in two_below (b - 0xE0) 0x80 0xBF (omega arith) (omega arith)) (λ _.
    by_test (is_between 0xED 0xED b) _ _ (λ h. let w = within 0xED 0xED b h in two_below (b - 0xE0) 0x80 0x9F (omega arith) (omega arith)) (λ _.
    by_test (is_between 0xEE 0xEF b) _ _ (λ h. let w = within 0xEE 0xEF b h in two_above (b - 0xE0) 0x80 0xBF (omega arith) (omega arith) (omega arith)) (λ _.
    by_test (is_between 0xF0 0xF0 b) _ _ (λ h. let w = within 0xF0 0xF0 b h in three_trails (b - 0xF0) 0x90 0xBF (omega arith) (omega arith) (omega arith)) (λ _.
    by_test (is_between 0xF1 0xF3 b) _ _ (λ h. let w = within 0xF1 0xF3 b h in three_trails (b - 0xF0) 0x80 0xBF (omega arith) (omega arith) (omega arith)) (λ _.
    by_test (is_between 0xF4 0xF4 b) _ _ (λ h. let w = within 0xF4 0xF4 b h in three_trails (b - 0xF0) 0x80 0x8F (omega arith) (omega arith) (omega arith)) (λ _. tt)))))))))

-- the bits of a first byte and whatever trails are a character
pub start_of-leads : (b : ℕ) (s : Start) → start_of b ≡ Some s → Leads s.bits s.after
start_of-leads b s e = subst LeadsOn e (all_lead b)

-- the first byte
pub Trails-start : (input : List ℕ) (bits low high after : ℕ) → 0 < length input → start_of (get_or input 0 0) ≡ Some (record { bits = bits; after = bounds low high after }) → after ≤ 3 → 0x80 ≤ low → Trails input 1 bits low high after
Trails-start [] bits low high after some e few above = absurd (omega arith)
Trails-start (b ∷ r) bits low high after some e few above = record {
  goes = rw e refl;
  leads = start_of-leads b _ e;
  few = omega arith;
  above = above;
}

-- a trail
pub Trails-next : (input : List ℕ) (bytes bits low high after more : ℕ) → Trails input bytes bits low high after → 0 < after → bytes < length input
    → more + 0x80 ≡ get_or input bytes 0 → low ≤ get_or input bytes 0 → get_or input bytes 0 ≤ high → Trails input (bytes + 1) (bits * 64 + more) 0x80 0xBF (after - 1)
Trails-next input bytes bits low high zero more t some in_range e l h = absurd (omega arith)
Trails-next input bytes bits low high (suc after) more t some in_range e l h =
    let is : is_between low high (get_or input bytes 0) ≡ true = grind (arith, nat_tests) in
    let m : get_or input bytes 0 - 0x80 ≡ more = omega arith in
    let k : suc after - 1 ≡ after = omega arith in
    let n : bytes + 1 ≡ suc bytes = omega arith in
    rw (k, n) (record {
      goes = rw (drop-cons input bytes 0 in_range, is, m) at t.goes;
      leads = rw m at (t.leads.1 (get_or input bytes 0) is);
      few = omega arith;
      above = omega arith;
    })

-- the input's end where a trail should be
pub Trails-end : (input : List ℕ) (bytes bits low high after : ℕ) → Trails input bytes bits low high after → 0 < after → length input ≤ bytes → malformed bytes 0 ≡ front utf_8_sequence input
Trails-end input bytes bits low high zero t some end = absurd (omega arith)
Trails-end input bytes bits low high (suc after) t some end = rw (drop_all bytes input end) at t.goes

-- another byte where a trail should be
pub Trails-leave : (input : List ℕ) (bytes bits low high after : ℕ) → Trails input bytes bits low high after → 0 < after → bytes < length input → (get_or input bytes 0 < low) ⊎ (high < get_or input bytes 0)
    → malformed bytes 0 ≡ front utf_8_sequence input
Trails-leave input bytes bits low high zero t some in_range o = absurd (omega arith)
Trails-leave input bytes bits low high (suc after) t some in_range o =
    let goes = rw (drop-cons input bytes 0 in_range) at t.goes in grind (arith, nat_tests, goes)
