use Rattle.yaml_lexers.proofs.Common.{is_tag, position_of, Reads, uri, ◌≡◌}
use Rattle.yaml_lexers.proofs.uri.read_suffix.Given as goal

abbrev pub invariant-suffix : goal.invariant-suffix
invariant-suffix g l = Reads l.fn.window l.window (λ a b. uri is_tag l.fn.start a (position_of l.fn.window) l.fn.text ≡ uri is_tag l.fn.start b (position_of l.window) l.text)

abbrev pub decreases-suffix : goal.decreases-suffix
decreases-suffix g l = l.window.left
