-- How many entries stand before every sixteenth block.
use Rattle.std.specs.Prelude.{ℕ, ◌≡◌, ◌+◌, ◌*◌, ◌^◌, ◌<◌, ◌≤◌, List, [], length, get_or}
use Rattle.yaml_tree.specs.declared.entry.Entry.{Entry}
use Rattle.yaml_tree.specs.Blocks.{joined, start, AreFilled}

-- start g is how many entries stand before block 16 g; the last start is after all blocks, so it counts all entries
pub record AreStarts (bs : List (List Entry)) (starts : List ℕ) : Type 0 where
  pub enough : length bs + 16 ≤ 16 * length starts
  pub each : (g : ℕ) → g < length starts → get_or starts g 0 ≡ start bs (16 * g)

-- what holds of blocks and their starts between two calls
pub record AreCounted (bs : List (List Entry)) (starts : List ℕ) : Type 0 where
  pub filled : AreFilled bs
  pub right : AreStarts bs starts
  pub fits : length (joined bs) < 2 ^ 64

-- in a range the higher numbers are the lower ones and so much more; elsewhere they are equal
pub record AreApart (more : ℕ → ℕ) (first end : ℕ) (lower higher : List ℕ) : Type 0 where
  pub count : length lower ≡ length higher
  pub before : (g : ℕ) → g < first → get_or lower g 0 ≡ get_or higher g 0
  pub inside : (g : ℕ) → first ≤ g → g < end → get_or lower g 0 + more g ≡ get_or higher g 0
  pub after : (g : ℕ) → end ≤ g → get_or lower g 0 ≡ get_or higher g 0

-- how many entries the block of a start has; 0 after all blocks
abbrev pub head_length : List (List Entry) → ℕ → ℕ
head_length bs g = length (get_or bs (16 * g) [])
