use Rattle.yaml_tree.proofs.Common.{ap, arith, moved_up, nat_tests, ◌-◌, ◌<◌, ◌∙◌}
use Rattle.yaml_tree.proofs.Packing.{packing_more}
use Rattle.yaml_tree.proofs.few.Few.moved_to_end.Goals as goal

pub loop-left-preserved : goal.loop-left-preserved
loop-left-preserved c =
    let i = c.loop-left.invariant in
    let low : c.moved_up.result < 16 = grind (arith, nat_tests, c.len-count.ensures, c.moved_up.ensures, c.at.ensures.low) in
    record {
      within = omega (arith, i.within);
      packing = packing_more c.args.self.now (c.loop-left.left - 1) c.loop-left.left c.loop-left.moved c.moved_up.result i.packing
          (omega (arith, c.loop-left-test.true)) (omega (arith, c.loop-left-test.true, i.within, c.len-count.ensures.count))
          (omega (arith, c.len-count.ensures)) (c.moved_up.ensures ∙ ap (moved_up c.args.gone c.len-count.result) c.at.ensures.place) low;
    }
