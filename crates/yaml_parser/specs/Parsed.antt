-- What clauses see of a parser.
use Rattle.std.specs.Prelude.{◌||◌, ◌&&◌, if◌then◌else◌, not, is_some, ℕ, List, [], ◌∷◌, ◌++◌, Bool, true, false, Option, Some, None}
use Rattle.std.specs.Bool.{beq}
use Rattle.defs_text.specs.Position.{Position}
use Rattle.yaml_tokens.specs.ErrorReport.{ErrorReport}
use Rattle.yaml_scanner.specs.Scanned.{Scanned}
use Rattle.defs_event.specs.Event.{Ev}

pub record Parsed : Type 0 where
  -- its scanner: the tokens that it handed out are those that the parser took from it
  pub scanner : Scanned
  -- the events that were given, with their positions; the stream's end once
  pub given : List (Ev × Position)
  -- the event that was looked at and waits
  pub ahead : Option (Ev × Position)
  -- the fault that is kept
  pub fault : Option ErrorReport
  -- whether an event was given, and so the stream's start
  pub started : Bool
  -- whether the stream's end was given
  pub ended : Bool
  pub keep_tags : Bool
  -- whether `keep_tags` was so from the stream's start on
  pub steady : Bool
  -- the settings of `keep_tags` with which the events were read, one for each
  pub settings : List Bool
  -- a bound on the events to come before the stream's end: it falls with each
  pub left : ℕ

-- What clauses see of a parser: the iterator as it was given, and what was read and given so far.
pub record Parse (T : Type 0) : Type 0 where
  pub start : T
  pub so_far : Parsed

abbrev pub parsed : {T : Type 0} → Parse T → Parsed
parsed p = p.so_far

-- whether it is the stream's end
abbrev pub is_stream_end : Ev → Bool
is_stream_end Ev.stream_end = true
is_stream_end _ = false

abbrev pub is_document_start : Ev → Bool
is_document_start Ev.document_start = true
is_document_start _ = false

abbrev pub is_document_end : Ev → Bool
is_document_end Ev.document_end = true
is_document_end _ = false

-- whether the stream's end is among these
abbrev pub has_end : List (Ev × Position) → Bool
has_end [] = false
has_end (e ∷ es) = is_stream_end e.0 || has_end es

-- These events as far as the stream's end, which each call after it gives again.
abbrev pub up_to_end : List (Ev × Position) → List (Ev × Position)
up_to_end [] = []
up_to_end (e ∷ es) = e ∷ (if is_stream_end e.0 then [] else up_to_end es)

-- The events that were read: those given, and the one that waits. After the stream's end nothing more is noted.
abbrev pub read_so : (given : List (Ev × Position)) → (ended : Bool) → (ahead : Option (Ev × Position)) → List (Ev × Position)
read_so given true ahead = given
read_so given false None = given
read_so given false (Some e) = given ++ e ∷ []

abbrev pub read : Parsed → List (Ev × Position)
read p = read_so p.given p.ended p.ahead

-- the settings after one more event is asked for: one that is read now is read with the setting that there is
abbrev pub settings_after : Parsed → List Bool
settings_after p = if is_some p.ahead || p.ended then p.settings else p.settings ++ p.keep_tags ∷ []

-- Nothing was asked for.
abbrev pub is_fresh : Parsed → Bool
is_fresh p = not p.started && (not (is_some p.ahead) && not (is_some p.fault))

-- whether the setting still counts from the stream's start on, where it is made this one now: nothing was asked for yet, or it is
-- what it was
abbrev pub stays_steady : Parsed → Bool → Bool
stays_steady p value = p.steady && (is_fresh p || beq value p.keep_tags)
