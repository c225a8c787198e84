use Rattle.yaml_tree.proofs.Common.{ap, flat, inl, inr, length, on, sym, tree_cmp, view, ◌∙◌, ◌≤◌, ◌⊎◌}
use Rattle.yaml_tree.proofs.Comparing.{cmp_next, cmp_end, slice_cmp-map, items_cmp-items_of, flat_cmp, stops}
use Rattle.yaml_tree.proofs.compare.+compare.Goals as goal
use Rattle.yaml_tree.proofs.compare.+compare.Goals.{compare_nodes-then-loop-i-test+else-i-b, compare_nodes-else-loop-i-test}

pub compare_items-returns : goal.compare_items-returns
compare_items-returns t c =
    rw (c.compare_nodes.ensures, c.as_slice.ensures.value, c.as_slice-2.ensures.value, c.a.view_is, c.b.view_is) (sym (items_cmp-items_of c.args.a.now c.args.b.now))

pub compare_pairs-returns : goal.compare_pairs-returns
compare_pairs-returns t c =
    let first = c.a.invariant.hash.even ∙ ap flat c.a.view_is in
    let second = c.b.invariant.hash.even ∙ ap flat c.b.view_is in
    rw (c.compare_nodes.ensures, c.as_slice.ensures.value, c.as_slice-2.ensures.value, first, second) (sym (flat_cmp c.args.a.now c.args.b.now))

pub compare_nodes-returns-in_default : goal.compare_nodes-returns-in_default
compare_nodes-returns-in_default t c =
    let i = c.loop-i.invariant in
    let next = cmp_next (on view tree_cmp) c.args.a.now c.args.b.now c.loop-i.i _ _ c.loop-i-test.true c.if-i-b.true c.index-a-i.is c.index-b-i.is in
    stops _ _ _ _ c.in_default.not-Equal c.compare.ensures (slice_cmp-map tree_cmp view c.args.a.now c.args.b.now ∙ i.same ∙ next)

pub compare_nodes-returns : goal.compare_nodes-returns
compare_nodes-returns t c =
    let i = c.loop-i.invariant in
    let past : (length c.args.a.now ≤ c.loop-i.i) ⊎ (length c.args.b.now ≤ c.loop-i.i) =
    elim c.loop-i-test.branch [ compare_nodes-then-loop-i-test+else-i-b w ↦ inr w.if-i-b.false | compare_nodes-else-loop-i-test w ↦ inl w.loop-i-test.false ] in
    let seen = slice_cmp-map tree_cmp view c.args.a.now c.args.b.now in
    c.cmp.ensures ∙ sym (cmp_end (on view tree_cmp) _ _ c.loop-i.i i.first_in i.second_in past) ∙ sym i.same ∙ sym seen
