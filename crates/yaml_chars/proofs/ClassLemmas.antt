-- Lemmas about the classes of characters.
use Rattle.yaml_chars.proofs.Common.{arith, false, is_blank, is_break, Run, stops, ℕ, ◌≡◌, ◌≢◌}

-- a character with which a run goes on is one
pub runs_some : (run : Run) (c : ℕ) → stops run c ≡ false → c ≢ 0
unfolding stops is_break is_blank
runs_some a c h e = grind arith
