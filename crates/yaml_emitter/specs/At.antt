-- Lines as they stand in a text: each but the first after a line feed and the spaces of its level, which are two for each level.
use Rattle.std.specs.Prelude.{ℕ, zero, suc, Bool, nat_lt, List, [], ◌∷◌, ◌++◌}
use Rattle.std.specs.List.{list_all}

-- the spaces of a level
abbrev pub spaces : ℕ → List ℕ
spaces zero = []
spaces (suc level) = 32 ∷ 32 ∷ spaces level

-- a new line at a level
abbrev pub new_line : ℕ → List ℕ
new_line level = 10 ∷ spaces level

-- lines that each begin on a new line at the level
abbrev pub below : ℕ → List (List ℕ) → List ℕ
below level [] = []
below level (l ∷ ls) = new_line level ++ (l ++ below level ls)

-- lines the first of which begins where the writer stands, and the others below it at the level
abbrev pub stacked : ℕ → List (List ℕ) → List ℕ
stacked level [] = []
stacked level (l ∷ ls) = l ++ below level ls

-- all characters are ASCII
abbrev pub is_low : List ℕ → Bool
is_low text = list_all (λ c. nat_lt c 128) text
