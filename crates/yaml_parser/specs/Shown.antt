-- The events of the code, as clauses see them.
use Rattle.std.specs.Prelude.{ℕ, List, Bool, true, false, Option, option_map, is_some, map}
use Rattle.defs_text.specs.Position.{Position}
use Rattle.defs_text.specs.Text.{string_chars}
use Rattle.yaml_tokens.specs.Shown.{style_of}
use Rattle.defs_event.specs.Event as defs
use Rattle.defs_event.specs.Event.{Ev}
use Rattle.model_scanner.specs.declared.kind.Collection.{Collection}
use Rattle.model_scanner.specs.declared.kind.Collection.TheVariants as collection
use Rattle.yaml_parser.specs.declared.event.Event.{Event}
use Rattle.yaml_parser.specs.declared.event.Event.TheVariants as event
use Rattle.yaml_parser.specs.declared.event.Tag.{Tag}

abbrev pub tag_of : Tag → defs.Tag
tag_of t = record { handle = string_chars t.handle; suffix = string_chars t.suffix }

abbrev pub perhaps_tag_of : Option Tag → Option defs.Tag
perhaps_tag_of = option_map tag_of

abbrev pub ev_of : Event → Ev
ev_of event.Nothing = Ev.nothing
ev_of event.StreamStart = Ev.stream_start
ev_of event.StreamEnd = Ev.stream_end
ev_of event.DocumentStart = Ev.document_start
ev_of event.DocumentEnd = Ev.document_end
ev_of (event.Alias n) = Ev.alias n
ev_of (event.Scalar x s a t) = Ev.scalar (string_chars x) (style_of s) a (perhaps_tag_of t)
ev_of (event.SequenceStart a t) = Ev.sequence_start a (perhaps_tag_of t)
ev_of event.SequenceEnd = Ev.sequence_end
ev_of (event.MappingStart a t) = Ev.mapping_start a (perhaps_tag_of t)
ev_of event.MappingEnd = Ev.mapping_end

-- the event that starts a collection, with this anchor and this tag
abbrev pub start_of : Collection → ℕ → Option defs.Tag → Ev
start_of collection.Sequence a t = Ev.sequence_start a t
start_of collection.Mapping a t = Ev.mapping_start a t

-- whether an event keeps a text, for which a copy asks for memory
abbrev pub keeps_text : Ev → Bool
keeps_text (Ev.scalar x s a t) = true
keeps_text (Ev.sequence_start a t) = is_some t
keeps_text (Ev.mapping_start a t) = is_some t
keeps_text _ = false

-- an event and its position
abbrev pub placed : Event × Position → Ev × Position
placed e = (ev_of e.0, e.1)

abbrev pub all_placed : List (Event × Position) → List (Ev × Position)
all_placed = map placed
