-- What the tree of every `Yaml` meets: no hash in it has a key twice, and its integers have 64 bits.
-- YAML 1.2, section 3.2.1.1 (keys are unique).
use Rattle.std.specs.Prelude.{◌≡◌, true}
use Rattle.defs_tree.specs.Spelling.{is_scalar}
use Rattle.defs_tree.specs.Tree.{Tree, Items, Pairs}
use Rattle.defs_tree.specs.Valid.{IsDistinct, AllDistinct, AllPairsDistinct, FitsI64, AllFitI64, AllPairsFitI64}

-- the tree does
abbrev pub IsValid : Tree → Type 0
IsValid t = IsDistinct t × FitsI64 t

-- each of the items does
abbrev pub AreValid : Items → Type 0
AreValid ts = AllDistinct ts × AllFitI64 ts

-- each key and each value does
abbrev pub ArePairsValid : Pairs → Type 0
ArePairsValid ps = AllPairsDistinct ps × AllPairsFitI64 ps

-- the tree does, where it is a scalar
abbrev pub IsValidScalar : Tree → Type 0
IsValidScalar t = is_scalar t ≡ true → IsValid t
