-- What one call of `load` pushes into a receiver: the parser's answers from where it stands, by four rules.
-- (1) If the start of the stream was not given yet, it is taken and pushed. (2) If the next event is the end of the
-- stream, it is pushed and the call ends well. (3) Else it must be the start of a document. (4) The document's events
-- are pushed up to its end; then with `multi` the work goes on at (2), else the call ends well.
-- A fault is returned and not pushed.
use Rattle.std.specs.Prelude.{ℕ, ◌+◌, Bool, List, [], ◌∷◌, take, if◌then◌else◌}
use Rattle.defs_text.specs.Position.{Position}
use Rattle.defs_event.specs.Event.{Ev}
use Rattle.defs_event.specs.PulledList.{Answer, event, fault}

-- where a call stands among the answers
pub data Standing : Type 0 where
  -- the start of the stream was not given
  before_stream : Standing
  -- at rule (2), where a document may begin
  between : Standing
  -- in a document whose start was pushed
  inside : Standing

-- how a call ends
pub data Ending (Fault : Type 0) : Type 0 where
  well : Ending Fault
  -- the parser's fault, which is returned
  faulted : Fault → Ending Fault
  -- an event where a document must start: the fault of rule (3), at that event's position
  no_document : Position → Ending Fault
  -- the receiver refused the last event that was pushed
  refused : Ending Fault
  -- these answers are not all that the call takes
  unfinished : Ending Fault

-- what a call pushes, how it ends, and how many answers it took
pub record Loaded (Fault : Type 0) : Type 0 where
  pub pushed : List (Ev × Position)
  pub ending : Ending Fault
  pub taken : ℕ

abbrev pub ends : {Fault : Type 0} → Ending Fault → ℕ → Loaded Fault
ends how n = record { pushed = []; ending = how; taken = n }

abbrev pub push : {Fault : Type 0} → Ev → Position → Loaded Fault → Loaded Fault
push e p l = record { pushed = (e, p) ∷ l.pushed; ending = l.ending; taken = l.taken + 1 }

-- What comes of a call that stands here, over the answers to come.
abbrev pub load_from : {Fault : Type 0} → Standing → (multi : Bool) → List (Answer Fault) → Loaded Fault
load_from s multi [] = ends unfinished 0
load_from s multi (fault f ∷ answers) = ends (faulted f) 1
load_from before_stream multi (event e p ∷ answers) = push e p (load_from between multi answers)
load_from between multi (event Ev.stream_end p ∷ answers) = push Ev.stream_end p (ends well 0)
load_from between multi (event Ev.document_start p ∷ answers) = push Ev.document_start p (load_from inside multi answers)
load_from between multi (event e p ∷ answers) = ends (no_document p) 1
load_from inside multi (event Ev.document_end p ∷ answers) =
    push Ev.document_end p (if multi then load_from between multi answers else ends well 0)
load_from inside multi (event e p ∷ answers) = push e p (load_from inside multi answers)

-- A call of a parser that has given the start of the stream, or has not, over the answers to come.
abbrev pub load : {Fault : Type 0} → (started multi : Bool) → List (Answer Fault) → Loaded Fault
load started multi answers = load_from (if started then between else before_stream) multi answers

-- The same call, where it pushes more than n events, over a receiver that refuses the n-th, counted from 0: the call ends
-- there, that event taken and pushed.
abbrev pub stopped : {Fault : Type 0} → ℕ → Loaded Fault → Loaded Fault
stopped n l = record { pushed = take (n + 1) l.pushed; ending = refused; taken = n + 1 }
