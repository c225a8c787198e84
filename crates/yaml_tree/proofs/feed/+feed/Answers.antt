use Rattle.std.specs.Hash as fed
use Rattle.std.proofs.lemmas.List.Sums.{fold-append}
use Rattle.yaml_tree.proofs.Common.{ap, arith, drop, drop_all, flat, get_or, length, List, pairs_feed, pairs_of, pairs_view, refl, tree_feed, view, Yaml, ℕ, ◌*◌, ◌++◌, ◌+◌, ◌/◌, ◌<◌, ◌∙◌, ◌≡◌}
use Rattle.yaml_tree.proofs.Comparing.{at_drop}
use Rattle.yaml_tree.proofs.Flattened.{row_length}
use Rattle.yaml_tree.proofs.feed.+feed.Goals as goal

-- what a pair feeds, and those after it
next_pair : (ys : List Yaml) (i : ℕ) (k v : Yaml) → i < length ys / 2 → k ≡ get_or ys (2 * i) k → v ≡ get_or ys (2 * i + 1) v
    → pairs_feed (pairs_of (pairs_view (drop (2 * i) ys))) ≡ fed.u8 1 ++ tree_feed (view k) ++ tree_feed (view v) ++ pairs_feed (pairs_of (pairs_view (drop (2 * (i + 1)) ys)))
next_pair ys i k v h d e = grind (arith, at_drop)

pub feed_pairs-loop-i-preserved : goal.feed_pairs-loop-i-preserved
feed_pairs-loop-i-preserved g t c =
    let next = next_pair c.as_slice-row.result.now c.loop-i.i _ _ c.loop-i-test.true c.index-row-i.is c.index-row-i-in-loop-i.is in
    rw (c.loop-i.invariant, next, c.feed-in-loop-i.ensures, c.feed.ensures, c.write_u8.ensures) (simp fold-append)

pub feed_pairs-returns : goal.feed_pairs-returns
feed_pairs-returns g t c =
    let even = row_length c.pairs.inside.row.items c.args.pairs.now (c.pairs.invariant.hash.even ∙ ap flat c.pairs.view_is) in
    let none = drop_all (2 * c.loop-i.i) c.as_slice-row.result.now (omega (arith, c.loop-i-test.false, ap length c.as_slice-row.ensures.value)) in
    rw (c.write_u8-2.ensures, c.loop-i.invariant, none) refl
