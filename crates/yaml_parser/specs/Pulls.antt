-- What the calls of a parser answer, and what they change.
use Rattle.std.specs.Prelude.{◌≡◌, ◌≢◌, ◌||◌, ◌<◌, ◌≤◌, if◌then◌else◌, [], ◌∷◌, ◌++◌, true, false, Some, None, IsSome, IfSome, Result, Ok, Err}
use Rattle.std.specs.Borrow.{Bor}
use Rattle.defs_text.specs.Position.{Position}
use Rattle.yaml_tokens.specs.ErrorReport.{ErrorReport}
use Rattle.defs_event.specs.Event.{Ev}
use Rattle.defs_event.specs.PulledList.{Answer}
use Rattle.defs_event.specs.PulledList as answer
use Rattle.defs_event.specs.Stream.{events_of}
use Rattle.yaml_parser.specs.declared.event.Event.{Event}
use Rattle.yaml_parser.specs.Shown.{ev_of, placed}
use Rattle.yaml_parser.specs.Parsed.{Parse, Parsed, parsed, is_stream_end, has_end, read, settings_after}
use Rattle.yaml_parser.specs.Settings.{AreAll}
use Rattle.yaml_parser.specs.Follows.{Follows, Derives, IsComplete, IsWhole, Explains}
use Rattle.yaml_parser.specs.Nests.{BeginsNested}

-- The setting stays.
pub record KeepsSettings (old new : Parsed) : Type 0 where
  pub keep_tags : new.keep_tags ≡ old.keep_tags
  pub steady : new.steady ≡ old.steady

-- No fault is kept, and the events that were read are nested, and are those of the token grammar.
pub record IsSound (p : Parsed) : Type 0 where
  pub fault : p.fault ≡ None
  pub nested : BeginsNested (events_of (read p))
  pub derives : Derives p
  pub complete : has_end (read p) ≡ true → IsComplete p
  pub steady : p.steady ≡ true → AreAll p.keep_tags p.settings
  pub follows : p.steady ≡ true → Follows p
  pub whole : p.steady ≡ true → has_end (read p) ≡ true → IsWhole p

-- An event is given, the one that waited if one did. After the stream's end that end comes again, and is not noted.
pub record GivesEvent (old : Parsed) (e : Ev × Position) (new : Parsed) : Type 0 where
  pub given : new.given ≡ old.given ++ (if old.ended then [] else e ∷ [])
  pub ended : new.ended ≡ old.ended || is_stream_end e.0
  pub started : new.started ≡ true
  pub ahead : new.ahead ≡ None
  pub waited : IfSome old.ahead (λ x. e ≡ x)
  pub over : old.ended ≡ true → e.0 ≡ Ev.stream_end
  pub left : e.0 ≢ Ev.stream_end → new.left < old.left
  pub settings : KeepsSettings old new
  pub noted : new.settings ≡ settings_after old
  pub clear : old.fault ≡ None
  pub sound : IsSound new

-- A fault is answered and kept, the one that was kept if one was.
pub record GivesFault (old : Parsed) (f : ErrorReport) (new : Parsed) : Type 0 where
  pub fault : new.fault ≡ Some f
  pub given : new.given ≡ old.given
  pub started : new.started ≡ old.started
  pub ended : (old.ended ≡ false) × (new.ended ≡ false)
  pub ahead : (old.ahead ≡ None) × (new.ahead ≡ None)
  pub settings : KeepsSettings old new
  pub noted : new.settings ≡ old.settings
  pub again : IfSome old.fault (λ g. (f ≡ g) × (new ≡ old))
  pub why : old.fault ≡ None → Explains f new

-- one call of `next_token`
abbrev pub Pulls : Parsed → Answer ErrorReport → Parsed → Type 0
Pulls old (answer.event e p) new = GivesEvent old (e, p) new
Pulls old (answer.fault f) new = GivesFault old f new

abbrev pub answer_of : Result (Event × Position) ErrorReport → Answer ErrorReport
answer_of (Ok e) = answer.event (ev_of e.0) e.1
answer_of (Err f) = answer.fault f

-- The next event waits; where one waited, nothing changes.
pub record Waits (old new : Parsed) : Type 0 where
  pub some : IsSome new.ahead
  pub waited : IsSome old.ahead → new ≡ old
  pub given : new.given ≡ old.given
  pub started : new.started ≡ old.started
  pub ended : new.ended ≡ old.ended
  pub over : old.ended ≡ true → IfSome new.ahead (λ e. e.0 ≡ Ev.stream_end)
  pub left : IfSome new.ahead (λ e. e.0 ≢ Ev.stream_end → new.left ≤ old.left)
  pub settings : KeepsSettings old new
  pub noted : new.settings ≡ settings_after old
  pub clear : old.fault ≡ None
  pub sound : IsSound new

-- one look at the next event
abbrev pub Looks : Parsed → Result (Unit {0}) ErrorReport → Parsed → Type 0
Looks old (Ok u) new = Waits old new
Looks old (Err f) new = GivesFault old f new

-- This event waits after a look.
abbrev pub ShowsNext : Parsed → Ev × Position → Type 0
ShowsNext old e = (new : Parsed) × Waits old new × (new.ahead ≡ Some e)

-- A look meets this fault.
abbrev pub MeetsFault : Parsed → ErrorReport → Type 0
MeetsFault old f = (new : Parsed) × GivesFault old f new

-- What `look` answered, as `peek` passes it on: the event that waits, or the fault.
abbrev pub ShowsLooked : Result (Unit {0}) ErrorReport → Parsed → Result (Bor (Event × Position)) ErrorReport → Type 0
ShowsLooked looked new (Ok e) = (looked ≡ Ok tt) × (new.ahead ≡ Some (placed e.now))
ShowsLooked looked new (Err f) = looked ≡ Err f

-- one peek at the next event
abbrev pub Peeks : Parsed → Result (Bor (Event × Position)) ErrorReport → Parsed → Type 0
Peeks old (Ok e) new = Waits old new × (new.ahead ≡ Some (placed e.now))
Peeks old (Err f) new = GivesFault old f new

-- What a peek leaves of the parser, once the event that it showed is let go.
pub record PeekLeaves {T : Type 0} (old : Parse T) (shown : Result (Bor (Event × Position)) ErrorReport) (new : Parse T) : Type 0 where
  pub start : new.start ≡ old.start
  pub peeks : Peeks (parsed old) shown (parsed new)
