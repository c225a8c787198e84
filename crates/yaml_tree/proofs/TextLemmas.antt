-- Strings and the characters that clauses see.
use Rattle.std.specs.Str.{chars}
use Rattle.yaml_tree.proofs.Common.{ap, List, String, string_bytes, string_chars, ℕ, ◌≡◌}

-- strings of the same bytes have the same characters
pub same_chars : {A B : Type 0} (s : String A) (t : String B) → string_bytes s ≡ string_bytes t → string_chars s ≡ string_chars t
unfolding string_chars
same_chars s t e = ap chars e

-- the characters of a string that was made of a text
pub kept_chars : {A : Type 0} (bs : List ℕ) (s : String A) → string_bytes s ≡ bs → string_chars s ≡ chars bs
unfolding string_chars
kept_chars bs s e = ap chars e
