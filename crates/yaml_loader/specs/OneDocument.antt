-- What the reading of one document does with a parser.
use Rattle.std.specs.Prelude.{◌≡◌, ◌≢◌, ◌⊎◌, ◌<◌, ◌≤◌, ◌++◌, Bool, true, false, List, [], ◌∷◌, Option, Some, None, Result, Ok, Err}
use Rattle.defs_text.specs.Position.{Position}
use Rattle.defs_tree.specs.Tree.{Tree}
use Rattle.yaml_tokens.specs.ErrorReport.{ErrorReport}
use Rattle.defs_event.specs.Event.{Ev}
use Rattle.defs_event.specs.Laws.{HasRead}
use Rattle.defs_event.specs.Unfinished.{new_loader, with_events, documents_of}
use Rattle.yaml_tree.specs.View.{view}
use Rattle.yaml_tree.specs.declared.yaml.Yaml.{Yaml}
use Rattle.yaml_parser.specs.Blames.{WantsMemory}
use Rattle.yaml_parser.specs.Follows.{Explains}
use Rattle.yaml_parser.specs.Loads.{Receives}
use Rattle.yaml_parser.specs.Parsed.{Parsed, is_stream_end, has_end}
use Rattle.yaml_parser.specs.Pulls.{IsSound, KeepsSettings}
use Rattle.yaml_loader.specs.Loads.{HasDocuments, HasNoted}
use Rattle.yaml_loader.specs.RepeatedKey.{TellsKey}
use Rattle.yaml_loader.specs.declared.one_document.Halt.{Halt}
use Rattle.yaml_loader.specs.declared.one_document.Halt.TheVariants as halt

-- ---- the events of one document

-- whether an event ends a document or the stream
abbrev pub is_end : Ev → Bool
is_end Ev.document_end = true
is_end Ev.stream_end = true
is_end _ = false

abbrev pub HasNoEnd : List (Ev × Position) → Type 0
HasNoEnd [] = Unit {0}
HasNoEnd (e ∷ es) = (is_end e.0 ≡ false) × HasNoEnd es

-- No fault is kept, and the stream's end was not given.
pub record IsGoing (p : Parsed) : Type 0 where
  pub fault : p.fault ≡ None
  pub ended : p.ended ≡ false

-- Some events came, none of them an end, and the receiver took them.
pub record Goes {R : Type 0} (takes : R → Ev → Position → Result (Unit {0}) ErrorReport → R → Type 0) (old : Parsed) (r : R) (now : Parsed) (s : R) : Type 0 where
  pub events : List (Ev × Position)
  pub no_end : HasNoEnd events
  pub given : now.given ≡ old.given ++ events
  pub going : IsGoing now
  pub settings : KeepsSettings old now
  pub received : Receives takes r events s
  pub left : now.left ≤ old.left

-- Some events came, the last of them an end.
pub record Ended (old : Parsed) (now : Parsed) : Type 0 where
  pub events : List (Ev × Position)
  pub last : Ev
  pub position : Position
  pub no_end : HasNoEnd events
  pub given : now.given ≡ old.given ++ (events ++ (last, position) ∷ [])
  pub ahead : now.ahead ≡ None
  pub settings : KeepsSettings old now
  pub sound : IsSound now

-- The receiver took them all.
pub record TakesAll {R : Type 0} (takes : R → Ev → Position → Result (Unit {0}) ErrorReport → R → Type 0) (old : Parsed) (r : R) (now : Parsed) (s : R) : Type 0 where
  pub came : Ended old now
  pub is_end : is_end came.last ≡ true
  pub ended : now.ended ≡ is_stream_end came.last
  pub received : Receives takes r (came.events ++ (came.last, came.position) ∷ []) s
  pub less : came.last ≢ Ev.stream_end → now.left < old.left

-- The parser has a fault after some events, none of them an end.
pub record Faults (old : Parsed) (f : ErrorReport) (now : Parsed) : Type 0 where
  pub events : List (Ev × Position)
  pub no_end : HasNoEnd events
  pub given : now.given ≡ old.given ++ events
  pub settings : KeepsSettings old now
  pub why : Explains f now

-- The receiver refuses the last event that came.
pub record Refuses {R : Type 0} (takes : R → Ev → Position → Result (Unit {0}) ErrorReport → R → Type 0) (old : Parsed) (r : R) (f : ErrorReport) (now : Parsed) (s : R) : Type 0 where
  pub came : Ended old now
  pub before : R
  pub received : Receives takes r came.events before
  pub refuses : takes before came.last came.position (Err f) s

abbrev pub fault_in : Halt → ErrorReport
fault_in (halt.Parser f) = f
fault_in (halt.Receiver f) = f

abbrev pub TakesDocument : {R : Type 0} → (R → Ev → Position → Result (Unit {0}) ErrorReport → R → Type 0) → Parsed → R → Result (Unit {0}) Halt → Parsed → R → Type 0
TakesDocument takes old r (Ok u) now s = TakesAll takes old r now s
TakesDocument takes old r (Err (halt.Parser f)) now s = Faults old f now
TakesDocument takes old r (Err (halt.Receiver f)) now s = Refuses takes old r f now s

-- ---- between two documents

-- the documents that the parser's events finish
abbrev pub finished : Parsed → List Tree
finished p = documents_of (with_events new_loader p.given)

-- The last event ended a document.
pub record EndsDocument (p : Parsed) : Type 0 where
  pub before : List (Ev × Position)
  pub position : Position
  pub given : p.given ≡ before ++ (Ev.document_end, position) ∷ []

-- The setting is the same for the whole stream, and forgets handles.
pub record IsPlain (p : Parsed) : Type 0 where
  pub keep_tags : p.keep_tags ≡ false
  pub steady : p.steady ≡ true

-- The parser has given nothing, or a document's end. The documents so far were read.
pub record IsBetween (p : Parsed) : Type 0 where
  pub going : IsGoing p
  pub plain : IsPlain p
  pub read : HasRead (Ok (finished p)) (with_events new_loader p.given)
  pub last : (p.given ≡ []) ⊎ EndsDocument p

-- Events were read, and none waits.
pub record IsRead (p : Parsed) : Type 0 where
  pub plain : IsPlain p
  pub ahead : p.ahead ≡ None
  pub sound : IsSound p

-- A document more was read.
pub record ReadsOne (old : Parsed) (t : Tree) (now : Parsed) : Type 0 where
  pub between : IsBetween now
  pub is_read : IsRead now
  pub last : EndsDocument now
  pub added : finished now ≡ finished old ++ t ∷ []
  pub less : now.left < old.left

-- All was read.
pub record ReadsAll (old now : Parsed) : Type 0 where
  pub is_read : IsRead now
  pub ended : has_end now.given ≡ true
  pub same : finished now ≡ finished old
  pub documents : HasDocuments (with_events new_loader now.given) (finished now)

-- Why no document more was read.
pub data Stops (old : Parsed) (f : ErrorReport) (now : Parsed) : Type 0 where
  by_parser : Explains f now → IsPlain now → finished now ≡ finished old → Stops old f now
  by_memory : WantsMemory f → Stops old f now
  by_key : IsRead now → EndsDocument now → finished now ≡ finished old → (key : Tree) → HasNoted (with_events new_loader now.given) key f.position → TellsKey key f.text → f.memory ≡ false → Stops old f now

abbrev pub Reads : Parsed → Result (Option Yaml) ErrorReport → Parsed → Type 0
Reads old (Ok (Some t)) now = ReadsOne old (view t) now
Reads old (Ok None) now = ReadsAll old now
Reads old (Err f) now = Stops old f now

-- Between two calls: a document may come, or nothing comes any more.
pub record IsReady (p : Parsed) (over : Bool) : Type 0 where
  pub between : over ≡ false → IsBetween p
