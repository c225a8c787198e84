-- Marks that have the parts of a tree.
use Rattle.std.specs.Prelude.{◌≡◌, List, [], ◌∷◌}
use Rattle.defs_tree.specs.Tree.{Tree, array, hash, Items, no_items, item, Pairs, no_pairs, pair}
use Rattle.defs_event.specs.Marks.{Marks, marks, Parts, no_parts, part}

abbrev mutual
  -- An array has marks for each item, a hash for each key and each value, and every other tree has no parts.
  pub Fits : Tree → Marks → Type 0
  Fits (array ts) (marks own tree ms) = ItemsFit ts ms
  Fits (hash ps) (marks own tree ms) = PairsFit ps ms
  Fits t (marks own tree ms) = ms ≡ no_parts

  pub ItemsFit : Items → Parts → Type 0
  ItemsFit no_items no_parts = Unit {0}
  ItemsFit (item t ts) (part m ms) = Fits t m × ItemsFit ts ms
  ItemsFit _ _ = ⊥

  pub PairsFit : Pairs → Parts → Type 0
  PairsFit no_pairs no_parts = Unit {0}
  PairsFit (pair k v ps) (part m (part n ms)) = Fits k m × Fits v n × PairsFit ps ms
  PairsFit _ _ = ⊥

-- one tree after the other
abbrev pub AllFit : List Tree → List Marks → Type 0
AllFit [] [] = Unit {0}
AllFit (t ∷ ts) (m ∷ ms) = Fits t m × AllFit ts ms
AllFit _ _ = ⊥
