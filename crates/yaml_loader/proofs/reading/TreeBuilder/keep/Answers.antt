use Rattle.yaml_loader.proofs.Common.{view}
use Rattle.yaml_loader.proofs.AliasLemmas.{finished_in}
use Rattle.yaml_loader.proofs.reading.TreeBuilder.keep.Goals as goal

pub returns-clause-aliases : goal.returns-clause-aliases
returns-clause-aliases c =
    finished_in c.args.self.now.anchors.entries c.insert.new.self.entries c.args.anchor c.in_ok-copy.copy (view c.args.node.now)
    c.requires (c.in_ok-copy.ensures {u = tt}).tree (c.in_ok-insert.ensures {u = tt}).updates.0
