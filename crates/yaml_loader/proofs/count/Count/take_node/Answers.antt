use Rattle.yaml_loader.proofs.CountLemmas.{node_counted}
use Rattle.yaml_loader.proofs.count.Count.take_node.Goals as goal

pub returns : goal.returns
returns c =
    let check = c.in_ok-check_levels.ensures {u = tt} in
    let add = c.in_ok-add.ensures {u = tt} in
    node_counted c.args.self.now c.add.new.self c.put.new.self c.args.extent check.ok check.fits add.ok add.within add.fits c.put.ensures.opened c.put.ensures.others
