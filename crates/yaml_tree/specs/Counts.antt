-- How far counts of comparisons rise.
use Rattle.std.specs.Prelude.{ℕ, ◌+◌, ◌≤◌}

-- a count never falls, and rises by at most so much
abbrev pub RisesWithin : ℕ → ℕ → ℕ → Type 0
RisesWithin before most after = (before ≤ after) × (after ≤ before + most)
