use Rattle.yaml_loader.proofs.Common.{on_ok_weaker, arith, GoesWith, subst}
use Rattle.defs_event.specs.Marking as defs
use Rattle.yaml_loader.proofs.MarkedSteps.{anchored, not_anchored}
use Rattle.yaml_loader.proofs.marking.Marking.insert_anchored.Goals as goal
use Rattle.yaml_loader.proofs.marking.Marking.insert_anchored.Goals.{then-anchor-gt0+in_ok-keep, else-anchor-gt0}

pub returns : goal.returns
returns c =
    let old = c.args.self.now in
    let new = c.insert.new.self in
    elim c.if-anchor-gt0.branch [
      | then-anchor-gt0+in_ok-keep w ↦ on_ok_weaker c.insert.result
          (λ goes. anchored c.args.anchor c.args.mark old w.keep.new.self new (omega arith) w.keep.ensures.others (w.in_ok-keep.ensures {u = tt}).under
          (subst (λ mid. GoesWith c.args.mark mid (λ s x. defs.with_part s x x.opened) new) w.self-is goes)) c.insert.ensures
      | else-anchor-gt0 w ↦ on_ok_weaker c.insert.result
          (λ goes. not_anchored c.args.anchor c.args.mark old new (omega arith) (subst (λ mid. GoesWith c.args.mark mid (λ s x. defs.with_part s x x.opened) new) w.self-is goes)) c.insert.ensures
    ]
