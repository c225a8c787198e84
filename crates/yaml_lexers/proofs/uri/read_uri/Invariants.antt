use Rattle.yaml_lexers.proofs.Common.{is_uri, position_of, Reads, uri, ◌≡◌}
use Rattle.yaml_lexers.proofs.uri.read_uri.Given as goal

abbrev pub invariant-uri : goal.invariant-uri
invariant-uri g l = Reads l.fn.window l.window (λ a b. uri is_uri l.fn.start a (position_of l.fn.window) l.fn.text ≡ uri is_uri l.fn.start b (position_of l.window) l.text)

abbrev pub decreases-uri : goal.decreases-uri
decreases-uri g l = l.window.left
