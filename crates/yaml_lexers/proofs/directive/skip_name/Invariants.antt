use Rattle.yaml_lexers.proofs.Common.{is_alpha, position_of, Reads, skip_while, slice_index, true, ◌≡◌}
use Rattle.model_scanner.specs.Directive.{kind}
use Rattle.yaml_lexers.specs.ShownTag.{kind_shown}
use Rattle.yaml_lexers.proofs.directive.skip_name.Given as goal

abbrev pub invariant-name : goal.invariant-name
invariant-name g l = Reads l.fn.window l.window (λ a b. (kind_shown l.directive ≡ kind a) × (is_alpha (slice_index a 0) ≡ true) × (skip_while is_alpha a (position_of l.fn.window) ≡ skip_while is_alpha b (position_of l.window)))

abbrev pub decreases-name : goal.decreases-name
decreases-name g l = l.window.left
