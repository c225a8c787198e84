-- Lemmas about strings that grow.
use Rattle.std.specs.Str.{chars}
use Rattle.std.proofs.lemmas.Fmt.{IsAscii-decimal}
use Rattle.yaml_encoding.proofs.Common.{[], ap, chars-append, chars-IsAscii, decimal, IsUtf8-string_bytes, List, String, string_bytes, string_chars, ℕ, ◌++◌, ◌<◌, ◌^◌, ◌∙◌, ◌∷◌, ◌≡◌}

pub text_pushed : {A : Type 0} (s t : String A) (more : List ℕ) → string_bytes t ≡ string_bytes s ++ more → string_chars t ≡ string_chars s ++ chars more
unfolding string_chars
text_pushed s t more e = ap chars e ∙ chars-append (string_bytes s) more (IsUtf8-string_bytes s)

pub number_pushed : {A : Type 0} (s t : String A) (n : ℕ) → n < 2 ^ 64 → string_bytes t ≡ string_bytes s ++ decimal n → string_chars t ≡ string_chars s ++ decimal n
number_pushed s t n fits e = text_pushed s t (decimal n) e ∙ ap (λ cs. string_chars s ++ cs) (chars-IsAscii (decimal n) (IsAscii-decimal n fits))

pub replacement_pushed : (s t : List ℕ) → t ≡ s ++ chars (0xEF ∷ 0xBF ∷ 0xBD ∷ []) → t ≡ s ++ 0xFFFD ∷ []
unfolding chars
replacement_pushed s t e = e
