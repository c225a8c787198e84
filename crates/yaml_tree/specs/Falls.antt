-- What stands in an array or a hash is less deep than the tree that holds it.
use Rattle.std.specs.Prelude.{◌≡◌, ◌≤◌, List, [], ◌∷◌}
use Rattle.std.proofs.Common.{arith, subst}
use denote.Param.Weighed.{most}
use Rattle.defs_tree.specs.Tree.{Tree, items_of, pairs_of}
use Rattle.yaml_tree.specs.Flat.{flat}
use Rattle.yaml_tree.specs.Depth.{depth, items_depth, pairs_depth}
use Rattle.yaml_tree.specs.View.{view, items_view, pairs_view}
use Rattle.yaml_tree.specs.declared.yaml.Yaml.{Yaml}
use Rattle.yaml_tree.specs.declared.yaml.Yaml.TheVariants.{Real, Integer, String, Boolean, Array, Hash, Alias, Null, BadValue}
use Rattle.yaml_tree.specs.declared.array.Array.TheDeep.{deep-Yaml}

-- the size that the checker gives a node is at most its depth
pub deep-le-depth : (y : Yaml) → deep-Yaml y ≤ depth (view y)
deep-le-depth (Real s) = omega arith
deep-le-depth (Integer z) = omega arith
deep-le-depth (String s) = omega arith
deep-le-depth (Boolean b) = omega arith
deep-le-depth (Array a) = omega arith
deep-le-depth (Hash h) = omega arith
deep-le-depth (Alias n) = omega arith
deep-le-depth Null = omega arith
deep-le-depth BadValue = omega arith

-- so for the items of an array
pub most-items : (ys : List Yaml) → most deep-Yaml ys ≤ items_depth (items_of (items_view ys))
most-items [] = omega arith
most-items (y ∷ ys) = omega (arith, deep-le-depth y, most-items ys)

-- keys and values in a row are as deep as the pairs
flat-depth : (ps : List (Tree × Tree)) → items_depth (items_of (flat ps)) ≤ pairs_depth (pairs_of ps)
flat-depth [] = omega arith
flat-depth (p ∷ ps) = omega (arith, flat-depth ps)

-- and for the keys and values of a hash
pub most-pairs : (ys : List Yaml) → items_view ys ≡ flat (pairs_view ys) → most deep-Yaml ys ≤ pairs_depth (pairs_of (pairs_view ys))
most-pairs ys e =
    let seen : most deep-Yaml ys ≤ items_depth (items_of (flat (pairs_view ys))) = subst (λ ts. most deep-Yaml ys ≤ items_depth (items_of ts)) e (most-items ys) in
    omega (arith, seen, flat-depth (pairs_view ys))
