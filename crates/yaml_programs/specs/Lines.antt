-- The line of an event, as bytes. Its form is this project's.
use Rattle.std.specs.Prelude.{ℕ, List, [], ◌++◌, Option, Some, None, if◌then◌else◌, nat_lt, codes}
use Rattle.std.specs.Fmt.{decimal}
use Rattle.std.specs.Str.{encode_utf8_all}
use Rattle.defs_text.specs.Position.{Position}
use Rattle.defs_tree.specs.Escapes.{double_quoted}
use Rattle.defs_token.specs.Token.{Style}
use Rattle.defs_event.specs.Event.{Ev, Tag}

-- a text in double quotes
abbrev pub quoted_text : List ℕ → List ℕ
quoted_text text = encode_utf8_all (double_quoted text)

abbrev pub style_name : Style → List ℕ
style_name Style.plain = codes "plain"
style_name Style.single_quoted = codes "single"
style_name Style.double_quoted = codes "double"
style_name Style.literal = codes "literal"
style_name Style.folded = codes "folded"

abbrev pub event_name : Ev → List ℕ
event_name Ev.nothing = codes "Nothing"
event_name Ev.stream_start = codes "StreamStart"
event_name Ev.stream_end = codes "StreamEnd"
event_name Ev.document_start = codes "DocumentStart"
event_name Ev.document_end = codes "DocumentEnd"
event_name (Ev.alias n) = codes "Alias"
event_name (Ev.scalar text s a t) = codes "Scalar"
event_name (Ev.sequence_start a t) = codes "SequenceStart"
event_name Ev.sequence_end = codes "SequenceEnd"
event_name (Ev.mapping_start a t) = codes "MappingStart"
event_name Ev.mapping_end = codes "MappingEnd"

-- an anchor's number, where there is an anchor
abbrev pub anchor_text : ℕ → List ℕ
anchor_text a = if nat_lt 0 a then codes " &" ++ decimal a else []

-- a tag's prefix and suffix, where there is a tag
abbrev pub tag_text : Option Tag → List ℕ
tag_text None = []
tag_text (Some t) = codes " tag " ++ quoted_text t.handle ++ codes " " ++ quoted_text t.suffix

abbrev pub properties_text : ℕ → Option Tag → List ℕ
properties_text a t = anchor_text a ++ tag_text t

-- a scalar's style and its text
abbrev pub scalar_text : Style → List ℕ → List ℕ
scalar_text s text = codes " " ++ style_name s ++ codes " " ++ quoted_text text

-- what stands after an event's name and position
abbrev pub details : Ev → List ℕ
details (Ev.alias n) = codes " *" ++ decimal n
details (Ev.scalar text s a t) = properties_text a t ++ scalar_text s text
details (Ev.sequence_start a t) = properties_text a t
details (Ev.mapping_start a t) = properties_text a t
details _ = []

-- an event's name, and its line and column
abbrev pub head : Ev → Position → List ℕ
head e p = event_name e ++ codes " " ++ decimal p.line ++ codes ":" ++ decimal p.col

-- the line
abbrev pub event_line : Ev → Position → List ℕ
event_line e p = head e p ++ details e ++ codes "\n"
