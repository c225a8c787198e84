-- What is known between two calls.
use Rattle.std.specs.Prelude.{◌≡◌, ◌⊎◌, ◌<◌, length, List, [], ◌∷◌, ◌++◌, Bool, true, false, Option, Some, None, IsSome, IfSome, Result, Ok, Err}
use Rattle.defs_text.specs.Position.{Position}
use Rattle.yaml_tokens.specs.ErrorReport.{ErrorReport}
use Rattle.defs_event.specs.Event.{Ev}
use Rattle.defs_event.specs.Names.{Names}
use Rattle.model_parser.specs.Goal as at
use Rattle.model_parser.specs.Goal.{Goal}
use Rattle.yaml_parser.specs.declared.event.Event.{Event}
use Rattle.yaml_parser.specs.declared.names.Keeping.{Keeping}
use Rattle.yaml_tokens.specs.declared.problem.Fault.{Fault}
use Rattle.yaml_parser.specs.declared.pull.EventReader.{EventReader}
use Rattle.yaml_parser.specs.declared.reader.Reader.{Reader}
use Rattle.yaml_parser.specs.Parsed.{has_end, read_so}
use Rattle.yaml_parser.specs.Settings.{AreAll}
use Rattle.yaml_parser.specs.Shown.{placed, ev_of}
use Rattle.yaml_parser.specs.Work.{work}
use Rattle.yaml_parser.specs.At.{At, Faulted}

abbrev pub goal_after : Bool → Goal
goal_after true = at.ended
goal_after false = at.done

-- These events were read, each with one of the settings, and the reader stands after them.
pub record Stands {T : Type 0} (p : Reader T) (read : List (Ev × Position)) : Type 0 where
  pub names : Names
  pub here : At (goal_after (has_end read)) p names read
  pub each : length p.names.keeping.settings.items ≡ length read

-- The reader stands after these events; or a fault was met there.
abbrev pub IsHeld : {T : Type 0} → Reader T → List (Ev × Position) → Option (Option Fault × Position) → Type 0
IsHeld p read None = Stands p read
IsHeld p read (Some k) = has_end read ≡ false

-- The setting with which one more event was read is noted.
pub record Notes (old new : Keeping) : Type 0 where
  pub tags : new.tags ≡ old.tags
  pub steady : new.steady ≡ old.steady
  pub settings : new.settings.items ≡ old.settings.items ++ old.tags ∷ []

-- where a fault is kept: it was met after these events
abbrev pub IsMet : {T : Type 0} → Reader T → List (Ev × Position) → Option (Option Fault × Position) → Type 0
IsMet p read o = IfSome o (λ k. Faulted p read k.0)

-- An event more is read; the stream's end comes again, and nothing changes; or a fault is met.
abbrev pub Continues : {T : Type 0} → EventReader T → List (Ev × Position) → Result (Event × Position) ErrorReport → EventReader T → Type 0
Continues old read (Ok e) new =
    (old.kept ≡ None) × (new.kept ≡ None)
    × (((has_end read ≡ true) × (new ≡ old) × (ev_of e.0 ≡ Ev.stream_end))
    ⊎ ((has_end read ≡ false) × (work new.reader < work old.reader) × Notes old.reader.names.keeping new.reader.names.keeping × IsHeld new.reader (read ++ placed e ∷ []) None))
Continues old read (Err f) new = (new.reader.names.keeping ≡ old.reader.names.keeping) × IsHeld new.reader read new.kept × (old.kept ≡ None → IsMet new.reader read new.kept)

-- The same before the stream's end, where no fault is kept.
abbrev pub Advances : {T : Type 0} → EventReader T → List (Ev × Position) → Result (Event × Position) (Option Fault) → EventReader T → Type 0
Advances old read (Ok e) new = (has_end read ≡ false) × (work new.reader < work old.reader) × Notes old.reader.names.keeping new.reader.names.keeping × IsHeld new.reader (read ++ placed e ∷ []) None
Advances old read (Err s) new = (new.reader.names.keeping ≡ old.reader.names.keeping) × (has_end read ≡ false) × Faulted new.reader read s

-- What is known of a parser.
pub record Holds {T : Type 0} (pull : EventReader T) (given : List (Ev × Position)) (ahead : Option (Ev × Position)) (started : Bool) : Type 0 where
  pub held : IsHeld pull.reader (read_so given (has_end given) ahead) pull.kept
  -- whether the settings were all this one
  pub steady : pull.reader.names.keeping.steady ≡ true → AreAll pull.reader.names.keeping.tags pull.reader.names.keeping.settings.items
  pub first : started ≡ false → given ≡ []
  pub clear : IsSome ahead → pull.kept ≡ None
  pub over : has_end given ≡ true → (pull.kept ≡ None) × IfSome ahead (λ e. e.0 ≡ Ev.stream_end)
