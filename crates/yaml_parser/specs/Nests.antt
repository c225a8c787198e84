-- Events that are nested, as far as they were read.
use Rattle.std.specs.Prelude.{◌≡◌, ◌||◌, ◌&&◌, not, List, [], ◌∷◌, ◌++◌, Bool, true, false}
use Rattle.defs_event.specs.Event.{Ev}
use Rattle.defs_event.specs.Nested.{IsNested}
use Rattle.defs_event.specs.Stream.{events_of}
use Rattle.yaml_parser.specs.Parsed.{Parsed, is_document_start, is_document_end}

-- These events are a beginning of nested events.
abbrev pub BeginsNested : List Ev → Type 0
BeginsNested es = (more : List Ev) × IsNested (es ++ more)

-- whether a document is open after an event, where one was open before it or was not
abbrev pub opened : Ev → Bool → Bool
opened e b = is_document_start e || (b && not (is_document_end e))

-- whether a document is open after these events
abbrev pub is_open : Bool → List Ev → Bool
is_open b [] = b
is_open b (e ∷ es) = is_open (opened e b) es

-- A document's start was given, and not its end.
abbrev pub IsInside : Parsed → Type 0
IsInside p = (p.ended ≡ false) × (is_open false (events_of p.given) ≡ true)
