use Rattle.yaml_encoding.proofs.Common.{curried, encoding_of, IsRead, IsStep, length, steps_by, string_chars, ◌-◌}
use Rattle.yaml_encoding.proofs.text.decoded.Given as goal

abbrev pub invariant-parts : goal.invariant-parts
invariant-parts g l = IsRead (steps_by (λ f. IsStep (curried ((goal.Fn-ptr g).post f.function))) l.trap) (encoding_of l.chosen.encoding) l.input l.position (string_chars l.text)

abbrev pub decreases-parts : goal.decreases-parts
decreases-parts g l = length l.input - l.position
