use Rattle.yaml_loader.proofs.LimitedCommon.{extent_at, refl, single_node}
use Rattle.yaml_loader.proofs.AliasLemmas.{put_at}
use Rattle.yaml_loader.proofs.count.Count.note.Goals as goal

pub returns-clause-anchors : goal.returns-clause-anchors
returns-clause-anchors c =
    put_at (λ x. x) single_node extent_at (λ n. refl) (λ n e es. refl) c.args.self.now.anchors.entries c.insert.new.self.entries c.args.anchor c.args.extent (c.in_ok-insert.ensures {u = tt}).updates.0
