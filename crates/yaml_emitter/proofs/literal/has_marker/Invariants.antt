use Rattle.yaml_emitter.proofs.Common.{begins_as_marker, chars, IsUtf8, length, lines_of, list_any, ◌≡◌}
use Rattle.yaml_emitter.proofs.literal.has_marker.Given as goal

abbrev pub invariant-lines : goal.invariant-lines
invariant-lines l = record {
  utf8 : IsUtf8 l.rest;
  left : list_any begins_as_marker (lines_of (chars l.fn.text)) ≡ list_any begins_as_marker (lines_of (chars l.rest));
}

abbrev pub decreases-lines : goal.decreases-lines
decreases-lines l = length l.rest
