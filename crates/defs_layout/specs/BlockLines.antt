-- The lines of a block scalar, as they are written at a column. YAML 1.2, section 8.1.
use Rattle.std.specs.Prelude.{◌≢◌, ℕ, ◌≤◌, List, [], ◌∷◌, ◌++◌}
use Rattle.defs_layout.specs.Marks.{line_feed}
use Rattle.defs_layout.specs.Gap.{spaces}

-- a line that isn't empty; or an empty one, and how many spaces stand in it
pub data Line : Type 0 where
  full : (text : List ℕ) → Line
  blank : (spaces : ℕ) → Line

-- a line without its indentation
abbrev pub content : Line → List ℕ
content (full text) = text
content (blank n) = []

-- the lines without their indentation
abbrev pub contents : List Line → List (List ℕ)
contents [] = []
contents (l ∷ ls) = content l ∷ contents ls

-- a line, before the rest r: a full one stands at the column
abbrev pub spell_line : (column : ℕ) → Line → List ℕ → List ℕ
spell_line column (full text) r = spaces column (text ++ r)
spell_line column (blank n) r = spaces n r

-- the lines, each after an LF
abbrev pub spell_lines : (column : ℕ) → List Line → List ℕ → List ℕ
spell_lines column [] r = r
spell_lines column (l ∷ ls) r = line_feed ∷ spell_line column l (spell_lines column ls r)

-- an empty line has at most as many spaces as stand before the others
abbrev pub IsLine : (column : ℕ) → Line → Type 0
IsLine column (full text) = text ≢ []
IsLine column (blank n) = n ≤ column

-- how the lines may be written at the column
abbrev pub AreLines : (column : ℕ) → List Line → Type 0
AreLines column [] = Unit {0}
AreLines column (l ∷ ls) = IsLine column l × AreLines column ls
