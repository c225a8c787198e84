use Rattle.overlay.proofs.Common.{IsWritable, list_of_pairs, refl, subst, sym}
use Rattle.overlay.proofs.InsertedLemmas.{laid_pairs}
use Rattle.overlay.proofs.WritableLemmas.{overlay_is_writable}
use Rattle.overlay.proofs.+overlay.Goals as goal

pub overlay-returns-in_ok-add_new_pairs-in-Hash-Hash-clause-tree : goal.overlay-returns-in_ok-add_new_pairs-in-Hash-Hash-clause-tree
overlay-returns-in_ok-add_new_pairs-in-Hash-Hash-clause-tree t c =
    let under = c.in_ok-pairs-in-Hash-Hash.ensures in
    let over = c.in_ok-add_new_pairs-in-Hash-Hash.ensures in
    rw (c.in-Hash-Hash.is-0, c.in-Hash-Hash.is-1, list_of_pairs, list_of_pairs, over.pairs, under.pairs, laid_pairs _ _ under.distinct over.distinct) refl

pub overlay-returns-in_ok-add_new_pairs-in-Hash-Hash-clause-writable : goal.overlay-returns-in_ok-add_new_pairs-in-Hash-Hash-clause-writable
overlay-returns-in_ok-add_new_pairs-in-Hash-Hash-clause-writable t c = λ h g. subst IsWritable (sym (overlay-returns-in_ok-add_new_pairs-in-Hash-Hash-clause-tree t c)) (overlay_is_writable _ _ h g)
