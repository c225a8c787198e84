-- How a text begins and ends, by its bytes and by its characters.
use Rattle.std.specs.Str.Pattern.{HasPrefixMatch, FindsTextPrefix, HasSuffixMatch, FindsTextSuffix}
use Rattle.std.specs.Bool.{MatchBool}
use Rattle.yaml_emitter.proofs.Common.{[], ap, arith, begins_with, Bool, bytes_eq-Decides, chars, chars-append, drop, drop-append_seam, encode_utf8_all, encodes-append, encodes-chars, encodes-IsAscii, ends_with, false, false_from_ne_true, get_or, get_or-append_seam, is_low, IsCharBoundary-before_ascii, IsUtf8, IsUtf8-from_ascii, IsUtf8-take, length, length-append, List, nat_eq, nat_tests, None, refl, sym, take, take-append-drop, take-append_seam, take-length, take_more, true, ℕ, ◌++◌, ◌+◌, ◌-◌, ◌<◌, ◌==◌, ◌∙◌, ◌∷◌, ◌≡◌, ◌≢◌, ◌≤◌}
use Rattle.yaml_emitter.proofs.ByteLemmas.{low_at, low_chars}

low_encoded : (w : List ℕ) → is_low w ≡ true → encode_utf8_all w ≡ w
low_encoded w h = encodes-IsAscii w (low_at w h)

-- characters of ASCII at the front of a text
pub low_front : (w s rest : List ℕ) → is_low w ≡ true → s ≡ w ++ rest → chars s ≡ w ++ chars rest
low_front w s rest h e = ap chars e ∙ chars-append w rest (IsUtf8-from_ascii w (low_at w h)) ∙ ap (λ x. x ++ chars rest) (low_chars w h)

pub begins_so : (w s rest : List ℕ) → is_low w ≡ true → s ≡ w ++ rest → true ≡ begins_with w (chars s)
begins_so w s rest h e = rw (low_front w s rest h e, take-append_seam, (bytes_eq-Decides w w).1 refl) refl

pub begins_otherwise : (w s : List ℕ) → is_low w ≡ true → IsUtf8 s → ((rest : List ℕ) → s ≢ w ++ rest) → false ≡ begins_with w (chars s)
begins_otherwise w s h u lacks = sym (false_from_ne_true (begins_with w (chars s)) (λ e.
    let same : w ≡ take (length w) (chars s) = (bytes_eq-Decides w (take (length w) (chars s))).0 e in
    let rest = drop (length w) (chars s) in
    lacks (encode_utf8_all rest)
    (sym (encodes-chars s u) ∙ ap encode_utf8_all (sym (take-append-drop (length w) (chars s)) ∙ ap (λ x. x ++ rest) (sym same))
    ∙ encodes-append w rest ∙ ap (λ x. x ++ encode_utf8_all rest) (low_encoded w h))))

pub ends_so : (w s front : List ℕ) → is_low w ≡ true → IsUtf8 front → s ≡ front ++ w → true ≡ ends_with nat_eq (chars s) w
ends_so w s front h u e =
    let f : chars s ≡ chars front ++ w = ap chars e ∙ chars-append front w u ∙ ap (λ x. chars front ++ x) (low_chars w h) in
    let n : length (chars front ++ w) - length w ≡ length (chars front) = omega (arith, length-append (chars front) w) in
    rw (f, n, drop-append_seam, (bytes_eq-Decides w w).1 refl) refl

pub ends_otherwise : (w s : List ℕ) → is_low w ≡ true → IsUtf8 s → ((front : List ℕ) → s ≢ front ++ w) → false ≡ ends_with nat_eq (chars s) w
ends_otherwise w s h u lacks = sym (false_from_ne_true (ends_with nat_eq (chars s) w) (λ e.
    let n = length (chars s) - length w in
    let same : w ≡ drop n (chars s) = (bytes_eq-Decides w (drop n (chars s))).0 e in
    let front = take n (chars s) in
    lacks (encode_utf8_all front)
    (sym (encodes-chars s u) ∙ ap encode_utf8_all (sym (take-append-drop n (chars s)) ∙ ap (λ x. front ++ x) (sym same))
    ∙ encodes-append front w ∙ ap (λ x. encode_utf8_all front ++ x) (low_encoded w h))))

-- what `str::starts_with` and `str::ends_with` answer
pub begins_by : (w s : List ℕ) (b : Bool) → is_low w ≡ true → IsUtf8 s → MatchBool b (HasPrefixMatch (FindsTextPrefix w) s) (FindsTextPrefix w s None) → b ≡ begins_with w (chars s)
begins_by w s a h u m = grind (arith, begins_so, begins_otherwise)

pub ends_by : (w s : List ℕ) (b : Bool) → is_low w ≡ true → IsUtf8 s → MatchBool b (HasSuffixMatch (FindsTextSuffix w) s) (FindsTextSuffix w s None) → b ≡ ends_with nat_eq (chars s) w
ends_by w s true h u m = ends_so w s _ h (IsUtf8-take s _ u m.3) m.1.1
ends_by w s false h u m = ends_otherwise w s h u m

-- ---- a text by its last byte

no_end : (bs front : List ℕ) (c : ℕ) → bs ≡ front ++ c ∷ [] → get_or bs (length bs - 1) 0 ≡ c
no_end bs front c e =
    let n : length (front ++ c ∷ []) - 1 ≡ length front = omega (arith, length-append front (c ∷ [])) in
    rw (e, n, get_or-append_seam)

last_apart : (bs : List ℕ) → 1 ≤ length bs → bs ≡ take (length bs - 1) bs ++ get_or bs (length bs - 1) 0 ∷ []
last_apart bs some =
    let up : length bs ≡ length bs - 1 + 1 = omega arith in
    sym (take-length bs) ∙ ap (λ k. take k bs) up ∙ take_more bs (length bs - 1) 0 (omega arith)

pub last_is : (bs : List ℕ) (c : ℕ) → c < 128 → IsUtf8 bs → 1 ≤ length bs → (get_or bs (length bs - 1) 0 == c) ≡ ends_with nat_eq (chars bs) (c ∷ [])
last_is bs c lt u some = by (get_or bs (length bs - 1) 0 == c) refl
  where
    low : is_low (c ∷ []) ≡ true
    low = grind (arith, nat_tests)

    by : (b : Bool) → (get_or bs (length bs - 1) 0 == c) ≡ b → b ≡ ends_with nat_eq (chars bs) (c ∷ [])
    by true e =
        let f : get_or bs (length bs - 1) 0 ≡ c = grind (arith, nat_tests) in
        let front = take (length bs - 1) bs in
        ends_so (c ∷ []) bs front low (IsUtf8-take bs _ u (IsCharBoundary-before_ascii bs _ (omega arith) (omega (arith, f))))
        (last_apart bs some ∙ ap (λ x. front ++ x ∷ []) f)
    by false e = ends_otherwise (c ∷ []) bs low u (λ front f. let g = no_end bs front c f in grind (arith, nat_tests))
