use Rattle.yaml_json.proofs.Answering.{ap, end_text, IsAscii, IsUtf8, IsUtf8-from_ascii, signed_ascii, signed_decimal, subst, sym, to_z-of_z, ◌∙◌}
use Rattle.yaml_json.proofs.integer.spelled.Goals as goal

pub from_utf8_unchecked-requires : goal.from_utf8_unchecked-requires
from_utf8_unchecked-requires c =
    let s = c.spell-start in
    let text = end_text s.result s.new.bytes _ s.array_long (s.ensures.written ∙ ap signed_decimal (to_z-of_z c.ranges.number)) in
    subst IsUtf8 (sym text) (IsUtf8-from_ascii _ (signed_ascii c.args.number c.ranges.number))

pub returns-clause-ascii : goal.returns-clause-ascii
returns-clause-ascii c =
    let s = c.spell-start in
    let text = end_text s.result s.new.bytes _ s.array_long (s.ensures.written ∙ ap signed_decimal (to_z-of_z c.ranges.number)) in
    subst IsAscii (sym (c.from_utf8_unchecked.ensures ∙ text)) (signed_ascii c.args.number c.ranges.number)
