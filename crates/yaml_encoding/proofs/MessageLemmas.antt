-- Lemmas about messages.
use Rattle.std.specs.Str.{chars}
use Rattle.yaml_encoding.proofs.Common.{[], add-one, after, append-nil, append_assoc, codes, decimal, drop, drop-cons, get_or, length, List, listed, refl, suc, sym, ℕ, ◌++◌, ◌+◌, ◌<◌, ◌∷◌, ◌≡◌}

listed_by_first : (n : ℕ) (ns : List ℕ) → listed (n ∷ ns) ≡ decimal n ++ after ns
listed_by_first n [] = sym (append-nil (decimal n))
listed_by_first n (m ∷ ns) =
    rw (listed_by_first m ns) (append_assoc (decimal n) (codes ", ") (decimal m ++ after ns))

-- a list of one number and others after it
pub list_pushed : (bytes others t u v : List ℕ) (n : ℕ) → bytes ≡ n ∷ others → u ≡ t ++ decimal n → v ≡ u ++ after others → v ≡ t ++ listed bytes
list_pushed bytes others t u v n e f g =
    rw (e, listed_by_first n others, ← append_assoc t (decimal n) (after others), ← f) g

-- a list of none
pub nothing_pushed : (bytes t : List ℕ) → bytes ≡ [] → t ≡ t ++ listed bytes
nothing_pushed bytes t e = rw (e, append-nil t) refl

-- one more of the numbers after the first
pub others_step : (bytes t u v : List ℕ) (i : ℕ) → i < length bytes → u ≡ t ++ chars (codes ", ") → v ≡ u ++ decimal (get_or bytes i 0) → v ++ after (drop (i + 1) bytes) ≡ t ++ after (drop i bytes)
unfolding chars
others_step bytes t u v i in_range e f =
    rw (f, e, drop-cons bytes i 0 in_range, add-one i, append_assoc (t ++ codes ", ") (decimal (get_or bytes i 0)) (after (drop (suc i) bytes)), append_assoc t (codes ", ") (decimal (get_or bytes i 0) ++ after (drop (suc i) bytes))) refl

-- the whole message
pub message_whole : (t u v w x y bytes : List ℕ) (position : ℕ) → t ≡ [] → u ≡ t ++ chars (codes "Invalid character sequence at ") → v ≡ u ++ decimal position → w ≡ v ++ chars (codes ": [") → x ≡ w ++ listed bytes → y ≡ x ++ chars (codes "]")
    → y ≡ codes "Invalid character sequence at " ++ decimal position ++ codes ": [" ++ listed bytes ++ codes "]"
unfolding chars
message_whole t u v w x y bytes position e f g h i j = rw (j, i, h, g, f, e) refl
