-- What a parser returns, call by call: an event with its position, or a fault.
use Rattle.std.specs.Prelude.{◌≡◌, List, [], ◌∷◌}
use Rattle.defs_text.specs.Position.{Position}
use Rattle.defs_event.specs.Event.{Ev}

pub data Answer (Fault : Type 0) : Type 0 where
  event : Ev → Position → Answer Fault
  fault : Fault → Answer Fault

abbrev pub IsStreamEnd : {Fault : Type 0} → Answer Fault → Type 0
IsStreamEnd (event Ev.stream_end p) = Unit {0}
IsStreamEnd _ = ⊥

-- Which answer may follow which: after the stream's end only that end, and after a fault only that fault.
abbrev pub MayFollow : {Fault : Type 0} → Answer Fault → Answer Fault → Type 0
MayFollow (event Ev.stream_end p) b = IsStreamEnd b
MayFollow (event e p) b = Unit {0}
MayFollow (fault f) b = b ≡ fault f

-- In a list of answers, after the stream's end or a fault the same answer comes again for ever.
abbrev pub IsSettled : {Fault : Type 0} → List (Answer Fault) → Type 0
IsSettled [] = Unit {0}
IsSettled (a ∷ []) = Unit {0}
IsSettled (a ∷ b ∷ answers) = MayFollow a b × IsSettled (b ∷ answers)

-- the events up to the first fault, with their positions
abbrev pub pulled_events : {Fault : Type 0} → List (Answer Fault) → List (Ev × Position)
pulled_events [] = []
pulled_events (event e p ∷ answers) = (e, p) ∷ pulled_events answers
pulled_events (fault f ∷ answers) = []

-- the answers of a run without a fault
abbrev pub given : (Fault : Type 0) → List (Ev × Position) → List (Answer Fault)
given Fault [] = []
given Fault (e ∷ events) = event e.0 e.1 ∷ given Fault events
