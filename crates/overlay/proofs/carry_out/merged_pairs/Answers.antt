use Rattle.overlay.proofs.Common.{refl, ◌∙◌}
use Rattle.overlay.proofs.MergeKey.{key_made}
use Rattle.overlay.proofs.carry_out.merged_pairs.Goals as goal
use Rattle.overlay.proofs.carry_out.merged_pairs.Goals.{in-Some+in_ok-add_brought, in_default}

pub returns : goal.returns
returns c =
    let key = key_made c.in_ok-from_str.field-0 c.in_ok-from_str.ensures.ok in
    elim c.match-remove.branch [
      | in-Some+in_ok-add_brought w ↦ w.pairs-is ∙ rw (← key, ← w.in-Some.ensures.pairs, ← w.in-Some.ensures.value) w.in_ok-add_brought.ensures
      | in_default w ↦ w.pairs-is ∙ rw (← key, ← w.in_default.ensures.pairs, ← w.in_default.ensures.value) refl
    ]
