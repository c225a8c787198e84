-- A node that is to be merged and is no mapping, as the code holds it, and as clauses see it.
use Rattle.std.specs.Prelude.{List, Vec, map, reverse}
use Rattle.std.specs.declared.alloc.Global.{Global}
use Rattle.defs_tree.specs.Path as tree_path
use Rattle.defs_tree.specs.MergeFault as fault
use Rattle.yaml_json.specs.Found.{step_view}
use Rattle.yaml_json.specs.declared.error.Step.{Step}
use Rattle.overlay.specs.declared.error.NotAMapping.{NotAMapping}
use Rattle.overlay.specs.declared.find.Wanted.{Wanted}
use Rattle.overlay.specs.declared.find.Wanted.TheVariants as wanted

-- the steps to it from the root
abbrev pub path_of : NotAMapping → List tree_path.Step
path_of n = map step_view n.path.items

-- the same, where the last step stands first
abbrev pub path_found : Vec Step Global → List tree_path.Step
path_found steps = map step_view (reverse steps.items)

-- what may stand in a place
abbrev pub wanted_view : Wanted → fault.Wanted
wanted_view wanted.Any = fault.any_node
wanted_view wanted.Mapping = fault.a_mapping
wanted_view wanted.Mappings = fault.mappings
