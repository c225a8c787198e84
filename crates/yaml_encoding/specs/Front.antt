-- What an input begins with, as the code finds it.
use Rattle.std.specs.Prelude.{◌≡◌, ℕ, zero, suc, ◌+◌, ◌-◌, ◌*◌, ◌<◌, List, [], ◌∷◌, true}
use Rattle.std.specs.Char.{IsScalar}
use Rattle.yaml_encoding.specs.Decoding.{Sequence, malformed, Range, is_between, little, big}
use Rattle.yaml_encoding.specs.declared.sequence.Sequence.{Sequence as Found}
use Rattle.yaml_encoding.specs.declared.utf_16.ByteOrder.{ByteOrder}
use Rattle.yaml_encoding.specs.declared.utf_16.ByteOrder.TheVariants.{Little, Big}

-- the sequence that the code found
abbrev pub sequence_of : Found → Sequence
sequence_of s = record { bytes = s.bytes; character = s.character; ahead = s.ahead }

-- what an input begins with
abbrev pub front : (ℕ → List ℕ → Sequence) → List ℕ → Sequence
front at [] = malformed 1 0
front at (b ∷ r) = at b r

-- a unit of two bytes in an order
abbrev pub unit_by : ByteOrder → ℕ → ℕ → ℕ
unit_by Little = little
unit_by Big = big

-- the ranges of so many bytes, of which the first has these bounds
abbrev pub bounds : (low high after : ℕ) → List Range
bounds low high zero = []
bounds low high (suc n) = record { low = low; high = high } ∷ bounds 0x80 0xBF n

-- whether bits and whatever bytes of these ranges are a character
abbrev pub Leads : (bits : ℕ) → List Range → Type 0
Leads bits [] = IsScalar bits
Leads bits (range ∷ ranges) = (bits < 0x20000) × ((b : ℕ) → is_between (range.low) (range.high) b ≡ true → Leads (bits * 64 + (b - 0x80)) ranges)
