-- The lines of a text: the parts between line feeds, without an empty last part. If the text has no CR, these are the lines that Rust's
-- `str::lines` gives.
use Rattle.std.specs.Prelude.{ℕ, Bool, not, ◌==◌, if◌then◌else◌, List, [], ◌∷◌, ◌++◌}
use Rattle.std.specs.List.{list_all, join_with_byte, flat_map}

-- a character before the first line
abbrev pub onto_first_line : ℕ → List (List ℕ) → List (List ℕ)
onto_first_line c [] = (c ∷ []) ∷ []
onto_first_line c (l ∷ ls) = (c ∷ l) ∷ ls

-- the lines of a text
abbrev pub lines_of : List ℕ → List (List ℕ)
lines_of [] = []
lines_of (c ∷ cs) = if c == 10 then [] ∷ lines_of cs else onto_first_line c (lines_of cs)

-- no line feed is in it
abbrev pub is_unbroken : List ℕ → Bool
is_unbroken l = list_all (λ c. not (c == 10)) l

-- lines joined by line feeds, with none at the end
abbrev pub joined : List (List ℕ) → List ℕ
joined ls = join_with_byte 10 ls

-- lines, each followed by a line feed
abbrev pub ended : List (List ℕ) → List ℕ
ended ls = flat_map (λ l. l ++ 10 ∷ []) ls
