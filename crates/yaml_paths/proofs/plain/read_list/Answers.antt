use Rattle.std.proofs.Common.{inl}
use Rattle.yaml_tree.specs.View.{view}
use Rattle.yaml_paths.specs.Path.{steps_of}
use Rattle.yaml_paths.specs.declared.kind.Kind.TheVariants.{Array}
use Rattle.yaml_paths.proofs.Nowhere.{leads_nowhere}
use Rattle.yaml_paths.proofs.plain.read_list.Goals as goal

pub returns-in-Err-clause-err : goal.returns-in-Err-clause-err
returns-in-Err-clause-err g c = inl (leads_nowhere Array (steps_of c.args.path.now) (view c.args.node.now) c.in-Err.error c.in-Err.ensures.item c.in-Err.ensures.err)
