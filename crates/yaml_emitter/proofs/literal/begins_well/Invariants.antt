use Rattle.yaml_emitter.proofs.Common.{begins_well, chars, chars_rest, IsUtf8, ◌≡◌}
use Rattle.yaml_emitter.proofs.literal.begins_well.Given as goal

abbrev pub invariant-characters : goal.invariant-characters
invariant-characters l = record {
  utf8 : IsUtf8 (chars_rest l.c-iterator);
  left : begins_well (chars l.fn.text) ≡ begins_well (chars (chars_rest l.c-iterator));
}
