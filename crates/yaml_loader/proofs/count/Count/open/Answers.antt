use Rattle.yaml_loader.proofs.LimitedCommon.{refl}
use Rattle.yaml_loader.proofs.CountLemmas.{start_counted}
use Rattle.yaml_loader.proofs.count.Count.open.Goals as goal

pub returns : goal.returns
returns c =
    let check = c.in_ok-check_levels.ensures {u = tt} in
    let add = c.in_ok-add.ensures {u = tt} in
    start_counted c.args.self.now c.add.new.self (record c.add.new.self { opened = c.push.new.self }) c.args.anchor check.ok add.ok add.within (c.in_ok-push.ensures {u = tt}).ok refl
