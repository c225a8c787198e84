-- Lemmas about texts as lists of characters.
use Rattle.std.specs.Str.{chars}
use Rattle.std.specs.Char.{IsScalar}
use Rattle.yaml_chars.proofs.Common.{[], ap, append-nil, arith, chars-append, chars-encodes, chars-nil, encode_utf8, encode_utf8_all, encodes-chars, is_empty, IsUtf8-string_bytes, length, List, nat_tests, refl, String, string_bytes, string_chars, sym, ℕ, ◌++◌, ◌==◌, ◌∙◌, ◌∷◌, ◌≡◌}

-- the character that the bytes of one spell
pub chars-encode : (c : ℕ) → IsScalar c → chars (encode_utf8 c) ≡ c ∷ []
chars-encode c ok =
    let one : encode_utf8_all (c ∷ []) ≡ encode_utf8 c = append-nil (encode_utf8 c) in
    ap chars (sym one) ∙ chars-encodes (c ∷ []) (rw ok refl)

pub chars_nil_of : (bs : List ℕ) → bs ≡ [] → chars bs ≡ []
chars_nil_of bs e = ap chars e ∙ chars-nil

pub chars_same : (bs cs : List ℕ) → cs ≡ bs → chars cs ≡ chars bs
chars_same bs cs e = ap chars e

pub chars_append_bytes : {A : Type 0} (s : String A) (more bs : List ℕ) → bs ≡ string_bytes s ++ more
    → chars bs ≡ chars (string_bytes s) ++ chars more
chars_append_bytes s more bs e = ap chars e ∙ chars-append (string_bytes s) more (IsUtf8-string_bytes s)

pub chars_append_of : {A B : Type 0} (s : String A) (u : String B) (bs : List ℕ) → bs ≡ string_bytes s ++ string_bytes u
    → chars bs ≡ chars (string_bytes s) ++ chars (string_bytes u)
chars_append_of s u bs e = chars_append_bytes s (string_bytes u) bs e

pub chars_push : {A : Type 0} (s : String A) (bs : List ℕ) (c : ℕ) → IsScalar c → bs ≡ string_bytes s ++ encode_utf8 c → chars bs ≡ chars (string_bytes s) ++ c ∷ []
chars_push s bs c ok e = chars_append_bytes s (encode_utf8 c) bs e ∙ ap (λ cs. chars (string_bytes s) ++ cs) (chars-encode c ok)

-- the same for strings
pub string_chars_nil : {A : Type 0} (s : String A) → string_bytes s ≡ [] → string_chars s ≡ []
unfolding string_chars
string_chars_nil s e = chars_nil_of (string_bytes s) e

pub string_chars_same : {A : Type 0} (s t : String A) → string_bytes t ≡ string_bytes s → string_chars t ≡ string_chars s
unfolding string_chars
string_chars_same s t e = ap chars e

pub string_chars_push : {A : Type 0} (s t : String A) (c : ℕ) → IsScalar c → string_bytes t ≡ string_bytes s ++ encode_utf8 c
    → string_chars t ≡ string_chars s ++ c ∷ []
unfolding string_chars
string_chars_push s t c ok e = chars_push s (string_bytes t) c ok e

is_nil_encoded : (cs bs : List ℕ) → encode_utf8_all cs ≡ bs → cs ≡ chars bs → is_empty (chars bs) ≡ (length bs == 0)
is_nil_encoded [] bs e f = rw (← f, ← e) refl
is_nil_encoded (c ∷ cs) [] e f = let g : c ∷ cs ≡ [] = f ∙ chars-nil in cc
is_nil_encoded (c ∷ cs) (b ∷ bs) e f = rw (← f) (grind (arith, nat_tests))

pub is_nil_chars : {A : Type 0} (s : String A) → is_empty (chars (string_bytes s)) ≡ (length (string_bytes s) == 0)
is_nil_chars s = is_nil_encoded (chars (string_bytes s)) (string_bytes s) (encodes-chars (string_bytes s) (IsUtf8-string_bytes s)) refl
