-- Numbers after others.
use Rattle.std.specs.Prelude.{ℕ, List, [], ◌∷◌, ◌++◌, codes, decimal}

-- numbers in decimal, with a comma and a space before each
abbrev pub after : List ℕ → List ℕ
after [] = []
after (n ∷ ns) = codes ", " ++ (decimal n ++ after ns)
