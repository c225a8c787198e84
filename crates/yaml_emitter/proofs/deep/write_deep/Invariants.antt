use Rattle.yaml_emitter.proofs.Common.{AreRestsValid, box, false, IsLeft, IsValid, rests_text, rests_weight, stacked, view}
use Rattle.yaml_emitter.proofs.deep.write_deep.Given as goal

abbrev pub invariant-rests : goal.invariant-rests
invariant-rests g l = record {
  left : IsLeft g.W.Writer.put_gives l.initial.out (stacked l.level (box l.settings.compact l.settings.multiline false (view l.block))) l.out
      (rests_text l.settings.compact l.settings.multiline l.rests);
  valid : AreRestsValid l.rests → IsValid (view l.block);
}

abbrev pub decreases-rests : goal.decreases-rests
decreases-rests g l = rests_weight l.rests
