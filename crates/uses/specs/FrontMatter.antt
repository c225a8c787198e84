-- A page that begins with front matter: a line `---`, settings, a further line `---`, and the rest.
use Rattle.std.specs.Prelude.{ℕ, ◌≡◌, ◌≤◌, false, List, ◌++◌, length, codes}
use Rattle.yaml_rust2.specs.Text.{up_to_nul}
use Rattle.yaml_rust2.specs.Meaning.{Means}
use Rattle.yaml_rust2.specs.Tree.{Tree}

-- How a line `---` ends.
pub data Ending : Type 0 where
  lf : Ending
  cr_lf : Ending

-- The line, if it is the first of a page.
abbrev pub opening : Ending → List ℕ
opening lf = codes "---\n"
opening cr_lf = codes "---\r\n"

-- The line, after the line feed of the line before it.
abbrev pub closing : Ending → List ℕ
closing lf = codes "\n---\n"
closing cr_lf = codes "\n---\r\n"

-- The first line is `---`.
pub record Opens (page : List ℕ) : Type 0 where
  pub ending : Ending
  pub rest : List ℕ
  pub whole : page ≡ opening ending ++ rest

-- The page is cut at its first further line `---`.
pub record IsCutAs (page front rest : List ℕ) : Type 0 where
  pub ending : Ending
  pub whole : page ≡ front ++ (closing ending ++ rest)
  pub first : (before after : List ℕ) (other : Ending) → page ≡ before ++ (closing other ++ after) → length front ≤ length before

-- The page has no such line.
abbrev pub IsUncut : List ℕ → Type 0
IsUncut page = (before after : List ℕ) (ending : Ending) → page ≡ before ++ (closing ending ++ after) → ⊥

-- The page begins with front matter: these documents are what it is read as up to the second line `---`, and this stands after that line.
pub record IsSplitAs (page : List ℕ) (documents : List Tree) (rest : List ℕ) : Type 0 where
  pub opens : Opens page
  pub front : List ℕ
  pub cut : IsCutAs page front rest
  pub read : Means false (up_to_nul front) documents

-- The page has no front matter: if its first line is `---`, there is no further such line.
abbrev pub IsWhole : List ℕ → Type 0
IsWhole page = Opens page → IsUncut page
