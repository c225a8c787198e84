-- A `Vec` of `Yaml`, as the logic holds it, for the clauses on what a `&mut` lends.
use denote.RattleType.{RattleType}
use Rattle.std.specs.contracts.alloc.Global as global
use Rattle.std.specs.contracts.vec.Vec as vec
use Rattle.std.specs.contracts.impls.GlobalAllocator.TheImpl.{ghosts}
use Rattle.yaml_tree.specs.contracts.yaml.Yaml.{the_row}

-- `Vec<Yaml>`
abbrev pub list_row : RattleType
list_row = vec.the_row the_row global.the_row ghosts
