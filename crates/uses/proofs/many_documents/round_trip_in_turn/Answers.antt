use Rattle.std.proofs.Common.{false}
use Rattle.yaml_rust2.specs.View.{items_view}
use Rattle.uses.proofs.InTurn.{all_can, read_as}
use Rattle.uses.proofs.many_documents.round_trip_in_turn.Goals as goal

pub returns-in-Ok-clause-same : goal.returns-in-Ok-clause-same
returns-in-Ok-clause-same c = λ writable.
    let ts = items_view c.args.trees.now in
    let laid = c.dumps_in_turn_are_laid_out.ensures c.args.compact c.args.multiline ts (all_can ts c.in_ok-text.ensures.valid writable) in
    c.in-Ok.ensures.meant _ (read_as ts c.in_ok-text.text _ _ c.as_str.ensures.value c.in_ok-text.ensures.text
    (c.layouts_in_turn_are_without_nul.ensures ts _ laid) (c.layouts_in_turn_mean_their_trees.ensures false ts _ laid))

pub returns-clause-refused : goal.returns-clause-refused
returns-clause-refused c = λ writable.
    let ts = items_view c.args.trees.now in
    let laid = c.dumps_in_turn_are_laid_out.ensures c.args.compact c.args.multiline ts (all_can ts c.in_ok-text.ensures.valid writable) in
    c.from.ensures (c.in-Err.ensures.meant _ (read_as ts c.in_ok-text.text _ _ c.as_str.ensures.value c.in_ok-text.ensures.text
    (c.layouts_in_turn_are_without_nul.ensures ts _ laid) (c.layouts_in_turn_mean_their_trees.ensures false ts _ laid)))
