use Rattle.yaml_tree.proofs.Common.{drop, fold, items_feed, items_of, items_view, pairs_feed, pairs_of, pairs_view, ◌*◌, ◌≡◌}
use Rattle.yaml_tree.proofs.feed.+feed.Given as goal

abbrev pub invariant-feed_items-loop-item : goal.invariant-feed_items-loop-item
invariant-feed_items-loop-item g l =
    fold g.H.Hasher.write l.initial.state (items_feed (items_of l.items)) ≡ fold g.H.Hasher.write l.state (items_feed (items_of (items_view (drop l.item-index l.item-items))))

abbrev pub invariant-feed_pairs-loop-i : goal.invariant-feed_pairs-loop-i
invariant-feed_pairs-loop-i g l =
    fold g.H.Hasher.write l.initial.state (pairs_feed (pairs_of l.pairs)) ≡ fold g.H.Hasher.write l.state (pairs_feed (pairs_of (pairs_view (drop (2 * l.i) l.row))))
