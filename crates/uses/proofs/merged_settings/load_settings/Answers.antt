use Rattle.std.proofs.Common.{ap, ◌∙◌}
use Rattle.overlay.specs.Merge.{merged}
use Rattle.yaml_rust2.specs.View.{view}
use Rattle.uses.proofs.First.{first_is}
use Rattle.uses.proofs.merged_settings.load_settings.Goals as goal

pub returns : goal.returns
returns c = λ tree laid. c.in_ok-settings.ensures.tree ∙ ap merged (first_is view _ _ _ _ (c.in_ok-documents.ensures.basic tree laid) c.deref.ensures.value c.in-Some.ensures.value)
