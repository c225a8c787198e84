-- Lines of events, computed.
use Rattle.std.proofs.Common.{◌≡◌, refl}
use Rattle.std.specs.Prelude.{ℕ, Some, None, codes}
use Rattle.std.specs.Fmt.{digits}
use Rattle.defs_text.specs.Position.{Position}
use Rattle.defs_tree.specs.Escapes.{written_character}
use Rattle.defs_token.specs.Token.{Style}
use Rattle.defs_event.specs.Event.{Ev}
use Rattle.yaml_programs.specs.Lines.{event_line}

abbrev at : ℕ → ℕ → Position
at line col = record { index = 0; line = line; col = col }

start : event_line Ev.stream_start (at 1 0) ≡ codes "StreamStart 1:0\n"
unfolding digits
start = refl

alias : event_line (Ev.alias 12) (at 3 10) ≡ codes "Alias 3:10 *12\n"
unfolding digits
alias = refl

plain : event_line (Ev.scalar (codes "1") Style.plain 0 None) (at 1 4) ≡ codes "Scalar 1:4 plain \"1\"\n"
unfolding digits written_character lib.Utf8.encode
plain = refl

escaped : event_line (Ev.scalar (codes "a\"\n") Style.literal 0 None) (at 2 0) ≡ codes "Scalar 2:0 literal \"a\\\"\\n\"\n"
unfolding digits written_character lib.Utf8.encode
escaped = refl

with_properties : event_line (Ev.scalar (codes "5") Style.plain 1 (Some (record { handle = codes "tag:yaml.org,2002:"; suffix = codes "int" }))) (at 1 9)
    ≡ codes "Scalar 1:9 &1 tag \"tag:yaml.org,2002:\" \"int\" plain \"5\"\n"
unfolding digits written_character lib.Utf8.encode
with_properties = refl

mapping : event_line (Ev.mapping_start 2 None) (at 4 2) ≡ codes "MappingStart 4:2 &2\n"
unfolding digits
mapping = refl
