-- Lemmas about the number of a text's characters.
use lib.Lanes.{chunk}
use lib.Utf8.{encode, encodes, next}
use Rattle.std.specs.Str.{chars}
use Rattle.std.proofs.Math.Seq.{take-add}
use Rattle.std.proofs.lemmas.List.{take_rest}
use Rattle.std.proofs.lemmas.List.Sums.{sum_by-cons, sum_by-take-drop}
use Rattle.yaml_chars.proofs.Common.{[], ap, arith, Bool, chars-IsAscii, chars-nil, cond, count_by, count_by-le-length, drop, encodes-chars, false, is_first_byte, IsAscii, IsCharBoundary, IsUtf8, IsUtf8-take, length, length-le-encodes, length-take-le, List, ltb, nat_tests, refl, suc, sum_by-append, sym, take, take_all, true, ℕ, ◌%◌, ◌++◌, ◌+◌, ◌-◌, ◌/◌, ◌<◌, ◌∙◌, ◌∷◌, ◌≡◌, ◌≤◌}

-- an ASCII text has as many characters as bytes
pub length_ascii : (bs : List ℕ) → IsAscii bs → length bs ≡ length (chars bs)
length_ascii bs a = ap length (sym (chars-IsAscii bs a))

-- no bytes have no character
pub chars_of_none : (n : ℕ) → chars (take n []) ≡ []
chars_of_none n = ap chars (take_all n [] (omega arith)) ∙ chars-nil

pub chars_of_zero : (n : ℕ) (bs : List ℕ) → n ≡ 0 → chars (take n bs) ≡ []
chars_of_zero n bs e = rw (e, chars-nil) refl

-- a text has no more characters than bytes
pub chars_few : (n : ℕ) (bs : List ℕ) → IsUtf8 bs → IsCharBoundary bs n → n ≤ length bs → length (chars (take n bs)) ≤ n
chars_few n bs u cut within =
    omega (arith, length-le-encodes (chars (take n bs)), ap length (encodes-chars _ (IsUtf8-take bs n u cut)), length-take-le n bs within)

-- ---- bytes with which characters begin

count_cons : (x : ℕ) (xs : List ℕ) → count_by is_first_byte (x ∷ xs) ≡ cond (is_first_byte x) 1 0 + count_by is_first_byte xs
count_cons x xs = sum_by-cons (λ y. cond (is_first_byte y) 1 0) x xs

begins_low : (x : ℕ) (xs : List ℕ) → x < 128 → count_by is_first_byte (x ∷ xs) ≡ suc (count_by is_first_byte xs)
begins_low x xs h = let one : cond {A = ℕ} (is_first_byte x) 1 0 ≡ 1 = grind (arith, nat_tests) in omega (arith, count_cons x xs, one)

begins_high : (x : ℕ) (xs : List ℕ) → 191 < x → count_by is_first_byte (x ∷ xs) ≡ suc (count_by is_first_byte xs)
begins_high x xs h = let one : cond {A = ℕ} (is_first_byte x) 1 0 ≡ 1 = grind (arith, nat_tests) in omega (arith, count_cons x xs, one)

follows : (n : ℕ) (xs : List ℕ) → count_by is_first_byte (next n ∷ xs) ≡ count_by is_first_byte xs
follows n xs =
    let low : n % 64 < 64 = omega arith in
    let none : cond {A = ℕ} (is_first_byte (128 + n % 64)) 1 0 ≡ 0 = grind (arith, nat_tests) in
    omega (arith, count_cons (next n) xs, none)

-- a character has one of these bytes
firsts_char : (c : ℕ) (rest : List ℕ) → count_by is_first_byte (encode c ++ rest) ≡ suc (count_by is_first_byte rest)
unfolding encode
firsts_char c rest = by (ltb c 128) (ltb c 2048) (ltb c 65536) refl
  where
    by : (x y z : Bool) → ltb c 128 ≡ x
        → count_by is_first_byte (cond x (c ∷ []) (cond y ((192 + c / 64) ∷ next c ∷ []) (cond z ((224 + c / 4096) ∷ next (c / 64) ∷ next c ∷ []) ((240 + c / 262144) ∷ next (c / 4096) ∷ next (c / 64) ∷ next c ∷ []))) ++ rest) ≡ suc (count_by is_first_byte rest)
    by true y z e = begins_low c rest (grind (arith, nat_tests))
    by false true z e = begins_high (192 + c / 64) (next c ∷ rest) (omega arith) ∙ ap suc (follows c rest)
    by false false true e = begins_high (224 + c / 4096) (next (c / 64) ∷ next c ∷ rest) (omega arith)
        ∙ ap suc (follows (c / 64) (next c ∷ rest) ∙ follows c rest)
    by false false false e =
        begins_high (240 + c / 262144) (next (c / 4096) ∷ next (c / 64) ∷ next c ∷ rest) (omega arith)
        ∙ ap suc (follows (c / 4096) (next (c / 64) ∷ next c ∷ rest) ∙ follows (c / 64) (next c ∷ rest) ∙ follows c rest)

firsts_encodes : (cs : List ℕ) → count_by is_first_byte (encodes cs) ≡ length cs
firsts_encodes [] = refl
firsts_encodes (c ∷ cs) = firsts_char c (encodes cs) ∙ ap suc (firsts_encodes cs)

-- a text has as many of them as characters
firsts_chars : (bs : List ℕ) → IsUtf8 bs → count_by is_first_byte bs ≡ length (chars bs)
firsts_chars bs u = ap (count_by is_first_byte) (sym (encodes-chars bs u)) ∙ firsts_encodes (chars bs)

-- counted in two parts
count_more : (xs : List ℕ) (at n : ℕ)
    → count_by is_first_byte (take (at + n) xs) ≡ count_by is_first_byte (take at xs) + count_by is_first_byte (take n (drop at xs))
count_more xs at n = ap (count_by is_first_byte) (take-add at n xs)
    ∙ sum_by-append (λ y. cond (is_first_byte y) 1 0) (take at xs) (take n (drop at xs))

pub block_more : (xs : List ℕ) (at m n : ℕ) → m ≡ count_by is_first_byte (take at xs) → n ≡ count_by is_first_byte (chunk at 16 xs) → m + n ≡ count_by is_first_byte (take (at + 16) xs)
block_more xs at m n e f = omega (arith, e, f, count_more xs at 16)

pub block_few : (xs : List ℕ) (at m n : ℕ) → at + 16 ≤ length xs → m ≡ count_by is_first_byte (take at xs) → n ≡ count_by is_first_byte (chunk at 16 xs) → m + n ≤ length xs
block_few xs at m n room e f = omega (arith, block_more xs at m n e f, count_by-le-length is_first_byte (take (at + 16) xs), length-take-le (at + 16) xs room, room)

pub count_whole : (bs : List ℕ) (at m n : ℕ) → IsUtf8 bs → m ≡ count_by is_first_byte (take at bs)
    → n ≡ count_by is_first_byte (take (length bs - at) (drop at bs))
    → m + n ≡ length (chars bs)
count_whole bs at m n u e f =
    let rest = ap (count_by is_first_byte) (take_rest bs at) in
    omega (arith, e, f, rest, sum_by-take-drop (λ y. cond (is_first_byte y) 1 0) bs at, firsts_chars bs u)
