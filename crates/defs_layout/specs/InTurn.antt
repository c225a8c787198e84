-- Texts of several documents: layouts one after another, each beginning with its `---`, and an LF after each. YAML 1.2, chapter 9 (streams).
use Rattle.std.specs.Prelude.{◌≡◌, ℕ, List, [], ◌∷◌, ◌++◌}
use Rattle.defs_tree.specs.Tree.{Tree}
use Rattle.defs_layout.specs.Marks.{line_feed}
use Rattle.defs_layout.specs.Basic.{IsBasicLayout}

-- the trees are laid out one after another, an LF after each: of no tree the text is empty
abbrev pub AreLaidOutInTurn : List Tree → List ℕ → Type 0
AreLaidOutInTurn [] text = text ≡ []
AreLaidOutInTurn (t ∷ ts) text =
    (first others : List ℕ) × IsBasicLayout t first × AreLaidOutInTurn ts others × (first ++ line_feed ∷ others ≡ text)
