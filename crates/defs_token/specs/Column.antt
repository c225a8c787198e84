-- Columns of block collections: which ones a piece ends, and where one begins. YAML 1.2, sections 6.1 (indentation), 8.2 (block collections).
use Rattle.std.specs.Prelude.{ℕ, List, [], ◌∷◌, Bool, true, false, ◌==◌, nat_lt, if◌then◌else◌, Option, Some, None}
use Rattle.defs_token.specs.Step.{Act, is_marker}

-- Open block collections are given by their columns, the innermost first. A sequence at the column of its key opens none.

-- the collections that a piece in this column does not end: those that are not deeper
abbrev pub not_ended : (column : ℕ) → List ℕ → List ℕ
not_ended column [] = []
not_ended column (n ∷ ns) = (if nat_lt column n then not_ended column ns else n ∷ ns)

-- the collections that go on at a piece: in flow all; outside it those that it does not end, and at a marker or a directive none
abbrev pub blocks_at : (in_flow : Bool) → Act → (column : ℕ) → List ℕ → List ℕ
blocks_at true act column bs = bs
blocks_at false act column bs = (if is_marker act then [] else not_ended column bs)

-- whether a column is deeper than that of the innermost collection
abbrev pub is_deeper : (column : ℕ) → List ℕ → Bool
is_deeper column [] = true
is_deeper column (n ∷ ns) = nat_lt n column

-- whether the innermost collection has this column
abbrev pub is_in_column : (column : ℕ) → List ℕ → Bool
is_in_column column [] = false
is_in_column column (n ∷ ns) = n == column

-- a collection in this column begins where it is deeper; else it is the innermost one that goes on
abbrev pub opened : (column : ℕ) → List ℕ → List ℕ
opened column bs = (if is_deeper column bs then column ∷ bs else bs)

-- the column of the innermost collection
abbrev pub innermost : List ℕ → Option ℕ
innermost [] = None
innermost (n ∷ ns) = Some n
