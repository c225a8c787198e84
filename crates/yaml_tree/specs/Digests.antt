-- A number of each key, by which most keys are told apart without a look at them.
use Rattle.std.specs.Prelude.{◌≡◌, ℕ, suc, pos, negsuc, ◌+◌, ◌-◌, ◌*◌, ◌%◌, ◌^◌, ◌<◌, min, List, [], ◌∷◌, length, get_or}
use Rattle.std.specs.Str.{encode_utf8_all}
use Rattle.yaml_tree.specs.Blocks.{joined, IsNarrowed}
use Rattle.yaml_tree.specs.Edges.{AreRising}
use Rattle.defs_tree.specs.Tree.{Tree, real, integer, string, boolean, array, hash, alias, null, bad_value}
use Rattle.yaml_tree.specs.Ranked.{key_of_rank}
use Rattle.yaml_tree.specs.declared.ranks.Kept.{Kept}
use Rattle.yaml_tree.specs.declared.ranks.Kept.TheVariants.{Few, Many}

-- a number with the bytes as further digits to the base 257, of which the low 64 bits are kept
abbrev pub with_digits : ℕ → List ℕ → ℕ
with_digits n [] = n
with_digits n (b ∷ bs) = with_digits ((n * 257 + b) % 2 ^ 64) bs

-- the digest of a text, by its bytes; at most 2 ^ 64 - 2, so that one more has 64 bits too
unfoldable pub text_digest : List ℕ → ℕ
text_digest bs = min (with_digits 0 bs) (2 ^ 64 - 2)

-- the digest of a key; only texts and integers have digests of their own
abbrev pub digest : Tree → ℕ
digest (real s) = text_digest (encode_utf8_all s)
digest (integer (pos n)) = n
digest (integer (negsuc n)) = suc n
digest (string s) = text_digest (encode_utf8_all s)
digest (boolean b) = 0
digest (array ts) = 0
digest (hash ps) = 0
digest (alias n) = 0
digest null = 0
digest bad_value = 0

-- each number is the digest of the key with this rank; there may be no numbers
abbrev pub AreDigests : List ℕ → List ℕ → List (Tree × Tree) → Type 0
AreDigests ms rs ps = (r : ℕ) → r < length ms → get_or ms r 0 ≡ digest (key_of_rank rs ps r)

-- the number by which ranks ascend first: the digest of a key; a short hash has none
abbrev pub first_by : Kept → Tree → ℕ
first_by (Few ps) = λ t. 0
first_by (Many b) = digest

-- the digests that are kept rise
abbrev pub HaveRising : Kept → Type 0
HaveRising (Few ps) = Unit {0}
HaveRising (Many b) = AreRising (joined b.value)

-- so many ranks from this one on are left for a key: all of a short hash, else those with its digest
abbrev pub IsWindow : Kept → Tree → ℕ → ℕ → Type 0
IsWindow (Few ps) k rank count = (rank ≡ 0) × (count ≡ length ps)
IsWindow (Many b) k rank count = IsNarrowed (joined b.value) (digest k) rank count
