use Rattle.overlay.proofs.Common.{ap, with_new_pairs, ◌∙◌}
use Rattle.overlay.proofs.PutLemmas.{pair_put, not_found}
use Rattle.overlay.proofs.carry_out.add_new_pairs.Goals as goal

pub pairs-preserved-in-Continue-1 : goal.pairs-preserved-in-Continue-1
pairs-preserved-in-Continue-1 c =
    ap (λ ps. with_new_pairs ps c.next.new.self) c.in_ok-insert.ensures
    ∙ pair_put _ _ c.pairs.pairs c.pairs.key-iterator c.next.new.self c.in-Some.ensures.steps (not_found _ _ _ _ c.get.ensures.value c.is_none.ensures c.if-is_none.true) ∙ c.pairs.invariant
