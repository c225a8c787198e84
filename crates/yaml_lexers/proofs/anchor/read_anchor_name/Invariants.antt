use Rattle.yaml_lexers.proofs.Common.{anchor_name, is_anchor, position_of, Reads, some_name, take_while, ◌<◌, ◌≡◌}
use Rattle.yaml_lexers.proofs.anchor.read_anchor_name.Given as goal

abbrev pub invariant-name : goal.invariant-name
invariant-name g l = record {
  reads : Reads l.fn.window l.window (λ a b. anchor_name a (position_of l.fn.window) ≡ some_name (position_of l.fn.window) (take_while is_anchor b (position_of l.window) l.name));
  less : l.window.left < l.fn.window.left;
}

abbrev pub decreases-name : goal.decreases-name
decreases-name g l = l.window.left
