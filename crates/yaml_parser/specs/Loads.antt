-- What `load` does with a parser and a receiver. `takes` is what one call of the receiver does.
use Rattle.std.specs.Prelude.{◌≡◌, ◌⊎◌, List, [], ◌∷◌, ◌++◌, length, Bool, if◌then◌else◌, Some, None, Result, Ok, Err}
use Rattle.defs_text.specs.Position.{Position}
use Rattle.yaml_tokens.specs.ErrorReport.{ErrorReport}
use Rattle.defs_event.specs.Event.{Ev}
use Rattle.defs_event.specs.PulledList.{Answer, given}
use Rattle.defs_event.specs.Push as run
use Rattle.defs_event.specs.Push.{Loaded, load, load_from, push, ends}
use Rattle.yaml_parser.specs.Parsed.{Parsed, is_document_end}
use Rattle.yaml_parser.specs.Pulls.{Pulls, GivesEvent, GivesFault}
use Rattle.yaml_parser.specs.View.{no_document}

-- A parser answers these calls of `next_token`, one after the other.
pub data PullsAll : Parsed → List (Answer ErrorReport) → Parsed → Type 0 where
  no_call : {p : Parsed} → PullsAll p [] p
  one_call : {p q r : Parsed} {answers : List (Answer ErrorReport)} (a : Answer ErrorReport) → PullsAll p answers q → Pulls q a r → PullsAll p (answers ++ a ∷ []) r

-- A receiver takes these events, one after the other, and answers each well.
pub data Receives {R : Type 0} (takes : R → Ev → Position → Result (Unit {0}) ErrorReport → R → Type 0) : R → List (Ev × Position) → R → Type 0 where
  no_event : {r : R} → Receives takes r [] r
  one_event : {r s t : R} {es : List (Ev × Position)} (e : Ev) (p : Position) → Receives takes r es s → takes s e p (Ok tt) t → Receives takes r (es ++ (e, p) ∷ []) t

-- An event is pulled and taken, and is a document's end or not; or a fault is pulled; or the receiver refuses the event.
abbrev pub PushesNext : {R : Type 0} → (R → Ev → Position → Result (Unit {0}) ErrorReport → R → Type 0) → Parsed → R → Result Bool ErrorReport → Parsed → R → Type 0
PushesNext takes now s (Ok last) now' s' = (e : Ev) × (p : Position) × GivesEvent now (e, p) now' × takes s e p (Ok tt) s' × (last ≡ is_document_end e)
PushesNext takes now s (Err f) now' s' = (GivesFault now f now' × (s' ≡ s)) ⊎ ((e : Ev) × (p : Position) × GivesEvent now (e, p) now' × takes s e p (Err f) s')

-- How a call ends whose run is this, after the parser that gave its answers; and whether that one keeps a fault.
pub data EndsSo {R : Type 0} (takes : R → Ev → Position → Result (Unit {0}) ErrorReport → R → Type 0) (r : R) (l : Loaded ErrorReport) (after : Parsed) : Result (Unit {0}) ErrorReport → Parsed → R → Type 0 where
  well : {s : R} → l.ending ≡ run.well → after.fault ≡ None → Receives takes r l.pushed s → EndsSo takes r l after (Ok tt) after s
  faulted : {s : R} {f : ErrorReport} → l.ending ≡ run.faulted f → after.fault ≡ Some f → Receives takes r l.pushed s → EndsSo takes r l after (Err f) after s
  -- this fault is kept
  misplaced : {s : R} (p : Position) → l.ending ≡ run.no_document p → Receives takes r l.pushed s → EndsSo takes r l after (Err (no_document p)) (record after { fault = Some (no_document p) }) s
  -- the receiver refused the last event, and its fault is not kept
  refused : {s t : R} {es : List (Ev × Position)} (e : Ev) (p : Position) {f : ErrorReport} → l.pushed ≡ es ++ (e, p) ∷ [] → after.fault ≡ None → Receives takes r es s → takes s e p (Err f) t → EndsSo takes r l after (Err f) after t

-- One call of `load`: the answers that it pulled, all of which its run takes, and how it ends.
pub record Loads {R : Type 0} (takes : R → Ev → Position → Result (Unit {0}) ErrorReport → R → Type 0) (multi : Bool) (old : Parsed) (r : R) (result : Result (Unit {0}) ErrorReport) (new : Parsed) (s : R) : Type 0 where
  pub answers : List (Answer ErrorReport)
  pub after : Parsed
  pub pulled : PullsAll old answers after
  pub taken : (load old.started multi answers).taken ≡ length answers
  pub ends : EndsSo takes r (load old.started multi answers) after result new s

-- ---- on the way

-- a run that pushes these events first
abbrev pub pushing : List (Ev × Position) → Loaded ErrorReport → Loaded ErrorReport
pushing [] l = l
pushing (e ∷ es) l = push e.0 e.1 (pushing es l)

-- Some events were pulled and taken, and the run goes on so.
pub record Going {R : Type 0} (takes : R → Ev → Position → Result (Unit {0}) ErrorReport → R → Type 0) (multi : Bool) (old : Parsed) (r : R) (on : List (Answer ErrorReport) → Loaded ErrorReport) (now : Parsed) (s : R) : Type 0 where
  pub events : List (Ev × Position)
  pub pulled : PullsAll old (given ErrorReport events) now
  pub received : Receives takes r events s
  pub runs : (rest : List (Answer ErrorReport)) → load old.started multi (given ErrorReport events ++ rest) ≡ pushing events (on rest)

abbrev pub RunsOn : {R : Type 0} → (R → Ev → Position → Result (Unit {0}) ErrorReport → R → Type 0) → Bool → Parsed → R → run.Standing → Parsed → R → Type 0
RunsOn takes multi old r at now s = Going takes multi old r (load_from at multi) now s

-- after the stream's start
abbrev pub StartsSo : {R : Type 0} → (R → Ev → Position → Result (Unit {0}) ErrorReport → R → Type 0) → Bool → Parsed → R → Result (Unit {0}) ErrorReport → Parsed → R → Type 0
StartsSo takes multi old r (Ok u) now s = RunsOn takes multi old r run.between now s
StartsSo takes multi old r (Err f) now s = Loads takes multi old r (Err f) now s

-- how a run goes on after a document
abbrev pub after_document : Bool → List (Answer ErrorReport) → Loaded ErrorReport
after_document multi rest = if multi then load_from run.between multi rest else ends run.well 0

-- after the document's end
abbrev pub IsAfter : {R : Type 0} → (R → Ev → Position → Result (Unit {0}) ErrorReport → R → Type 0) → Bool → Parsed → R → Result (Unit {0}) ErrorReport → Parsed → R → Type 0
IsAfter takes multi old r (Ok u) now s = Going takes multi old r (after_document multi) now s × (now.fault ≡ None)
IsAfter takes multi old r (Err f) now s = Loads takes multi old r (Err f) now s

abbrev pub ReadsOn : {R : Type 0} → (R → Ev → Position → Result (Unit {0}) ErrorReport → R → Type 0) → Bool → Parsed → R → Parsed → R → Result (Unit {0}) ErrorReport → Parsed → R → Type 0
ReadsOn takes multi old r now s result now' s' = RunsOn takes multi old r run.inside now s → IsAfter takes multi old r result now' s'
