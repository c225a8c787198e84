-- A sequence of UTF-8 that is read as far as some of its bytes.
use Rattle.std.specs.Prelude.{◌≡◌, ℕ, ◌+◌, ◌≤◌, List, drop}
use Rattle.yaml_encoding.specs.Decoding.{sequence_from, utf_8_sequence}
use Rattle.yaml_encoding.specs.Front.{front, bounds, Leads}

-- So many bytes of an input were read, with these bits; so many more are after them, the first of which has these bounds.
pub record Trails (input : List ℕ) (bytes bits low high after : ℕ) : Type 0 where
  pub goes : sequence_from bytes bits (bounds low high after) (drop bytes input) ≡ front utf_8_sequence input
  pub leads : Leads bits (bounds low high after)
  pub few : bytes + after ≤ 4
  pub above : 0x80 ≤ low
