-- Texts compared by their bytes are compared by their characters.
use Rattle.std.specs.Char.{encode_utf8}
use Rattle.std.specs.Str.{chars}
use Rattle.yaml_tree.proofs.Common.{[], ap, arith, encode_utf8_all, encodes-chars, Greater, IsUtf8, IsUtf8-string_bytes, Less, List, nat_cmp, nat_list_cmp_total, nat_tests, Ordering, ordering_reverse, ordering_then, refl, slice_cmp, String, string_bytes, string_chars, sym, ℕ, ◌%◌, ◌++◌, ◌+◌, ◌/◌, ◌<◌, ◌∙◌, ◌∷◌, ◌≡◌, ◌≤◌, ◌⊎◌}

abbrev cmp : List ℕ → List ℕ → Ordering
cmp = slice_cmp nat_cmp

first_less : (m n : ℕ) (xs ys : List ℕ) → m < n → cmp (m ∷ xs) (n ∷ ys) ≡ Less
first_less m n xs ys h = grind (arith, nat_tests)

step : (m n : ℕ) (xs ys : List ℕ) → m ≤ n → (m ≡ n → cmp xs ys ≡ Less) → cmp (m ∷ xs) (n ∷ ys) ≡ Less
step m n xs ys h f = grind (arith, nat_tests, f)

-- ---- the bytes of a character

abbrev back : ℕ → ℕ
back n = 128 + n % 64

-- how many bytes a character takes, and which
abbrev AreBytes : ℕ → List ℕ → Type 0
AreBytes c bs =
    ((c < 128) × (bs ≡ c ∷ []))
    ⊎ (((128 ≤ c) × (c < 2048) × (bs ≡ (192 + c / 64) ∷ back c ∷ []))
    ⊎ (((2048 ≤ c) × (c < 65536) × (bs ≡ (224 + c / 4096) ∷ back (c / 64) ∷ back c ∷ []))
    ⊎ ((65536 ≤ c) × (bs ≡ (240 + c / 262144) ∷ back (c / 4096) ∷ back (c / 64) ∷ back c ∷ []))))

bytes_of : (c : ℕ) → AreBytes c (encode_utf8 c)
unfolding encode_utf8
bytes_of c = grind (arith, nat_tests)

within_two : (c d : ℕ) (r t : List ℕ) → c < d → cmp ((192 + c / 64) ∷ back c ∷ r) ((192 + d / 64) ∷ back d ∷ t) ≡ Less
within_two c d r t h = grind (arith, step, back, first_less)

within_three : (c d : ℕ) (r t : List ℕ) → c < d → cmp ((224 + c / 4096) ∷ back (c / 64) ∷ back c ∷ r) ((224 + d / 4096) ∷ back (d / 64) ∷ back d ∷ t) ≡ Less
within_three c d r t h = grind (arith, step, back, first_less)

within_four : (c d : ℕ) (r t : List ℕ) → c < d
    → cmp ((240 + c / 262144) ∷ back (c / 4096) ∷ back (c / 64) ∷ back c ∷ r) ((240 + d / 262144) ∷ back (d / 4096) ∷ back (d / 64) ∷ back d ∷ t) ≡ Less
within_four c d r t h =
    step (240 + c / 262144) (240 + d / 262144) (back (c / 4096) ∷ back (c / 64) ∷ back c ∷ r) (back (d / 4096) ∷ back (d / 64) ∷ back d ∷ t) (omega arith) (λ e.
    step (back (c / 4096)) (back (d / 4096)) (back (c / 64) ∷ back c ∷ r) (back (d / 64) ∷ back d ∷ t) (omega arith) (λ f.
    step (back (c / 64)) (back (d / 64)) (back c ∷ r) (back d ∷ t) (omega arith) (λ g. first_less (back c) (back d) r t (omega arith))))

encode_less : (c d : ℕ) (r t : List ℕ) → c < d → cmp (encode_utf8 c ++ r) (encode_utf8 d ++ t) ≡ Less
encode_less c d r t h =
    let a = bytes_of c in
    let b = bytes_of d in
    grind (arith, first_less, t, h, back, within_two, within_three, within_four)

encode_greater : (c d : ℕ) (r t : List ℕ) → d < c → cmp (encode_utf8 c ++ r) (encode_utf8 d ++ t) ≡ Greater
encode_greater c d r t h = nat_list_cmp_total.antisymm (encode_utf8 c ++ r) (encode_utf8 d ++ t) ∙ ap ordering_reverse (encode_less d c t r h)

alike : (xs r t : List ℕ) → cmp (xs ++ r) (xs ++ t) ≡ cmp r t
alike [] r t = refl
alike (x ∷ xs) r t = grind (arith, nat_tests, alike xs r t)

-- the order of the next characters, and then of the rest
encode_cmp : (c d : ℕ) (r t : List ℕ) → cmp (encode_utf8 c ++ r) (encode_utf8 d ++ t) ≡ ordering_then (nat_cmp c d) (cmp r t)
encode_cmp c d r t = grind (arith, nat_tests, encode_greater, encode_less, same)
  where
    same : c ≡ d → cmp (encode_utf8 c ++ r) (encode_utf8 d ++ t) ≡ cmp r t
    same e = ap (λ x. cmp (encode_utf8 x ++ r) (encode_utf8 d ++ t)) e ∙ alike (encode_utf8 d) r t

before_any : (c : ℕ) (r : List ℕ) → cmp [] (encode_utf8 c ++ r) ≡ Less
before_any c r = let a = bytes_of c in grind arith

encoded_cmp : (cs ds : List ℕ) → cmp (encode_utf8_all cs) (encode_utf8_all ds) ≡ cmp cs ds
encoded_cmp [] [] = refl
encoded_cmp [] (d ∷ ds) = before_any d (encode_utf8_all ds)
encoded_cmp (c ∷ cs) [] = nat_list_cmp_total.antisymm _ [] ∙ ap ordering_reverse (before_any c (encode_utf8_all cs))
encoded_cmp (c ∷ cs) (d ∷ ds) = grind (arith, encode_cmp, encoded_cmp cs ds)

-- the bytes of a string are those of its characters
pub string_encoded : {A : Type 0} (s : String A) → encode_utf8_all (string_chars s) ≡ string_bytes s
unfolding string_chars
string_encoded s = encodes-chars (string_bytes s) (IsUtf8-string_bytes s)

-- strings compared by their bytes are compared by their characters
pub string_cmp : {A B : Type 0} (s : String A) (t : String B) → slice_cmp nat_cmp (string_bytes s) (string_bytes t) ≡ slice_cmp nat_cmp (string_chars s) (string_chars t)
string_cmp s t =
    sym (λ i. cmp (string_encoded s i) (string_encoded t i)) ∙ encoded_cmp (string_chars s) (string_chars t)

-- a text compared with a string by its bytes is compared by its characters
pub text_cmp : {A : Type 0} (bs : List ℕ) (s : String A) → IsUtf8 bs → slice_cmp nat_cmp bs (string_bytes s) ≡ slice_cmp nat_cmp (chars bs) (string_chars s)
text_cmp bs s u = sym (λ i. cmp (encodes-chars bs u i) (string_encoded s i)) ∙ encoded_cmp (chars bs) (string_chars s)
