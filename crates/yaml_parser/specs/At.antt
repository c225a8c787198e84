-- Where the productions stand.
use Rattle.std.specs.Prelude.{◌≡◌, ◌≤◌, ◌||◌, length, List, Option, [], ◌∷◌, ◌++◌, Bool, true, false, Some, None, IsSome, Result, Ok, Err, IsErr}
use Rattle.defs_text.specs.Position.{Position}
use Rattle.defs_token.specs.Token as defs
use Rattle.yaml_tokens.specs.declared.token.Token.{Token}
use Rattle.yaml_tokens.specs.declared.problem.Fault.TheVariants.{OutOfMemory}
use Rattle.yaml_tokens.specs.declared.problem.Fault.TheVariants as fault
use Rattle.yaml_tokens.specs.declared.problem.Problem.{Problem}
use Rattle.yaml_tokens.specs.Problem.{fault_of}
use Rattle.yaml_tokens.specs.Shown.{all_shown}
use Rattle.yaml_scanner.specs.Scanned.{scanned}
use Rattle.yaml_scanner.specs.declared.fetcher.Failed.{Failed}
use Rattle.defs_event.specs.Event.{Ev}
use Rattle.defs_event.specs.Raw.{Raw}
use Rattle.defs_event.specs.Properties.{tag_of}
use Rattle.defs_event.specs.Grammar.{Start, after_brace, after_comma}
use Rattle.defs_event.specs.Names.{Names, no_names, at_document, are_allowed, resolved, perhaps_resolved}
use Rattle.defs_event.specs.Stream.{Extent, StreamPlacesTo, events_of}
use Rattle.model_parser.specs.Goal as at
use Rattle.model_parser.specs.Goal.{Goal}
use Rattle.model_parser.specs.Place.{top}
use Rattle.model_parser.specs.Rest.{AwaitsAt}
use Rattle.model_parser.specs.Stands.{IsOnTrack}
use Rattle.model_parser.specs.declared.state.State.{State}
use Rattle.yaml_parser.specs.declared.event.Event.{Event}
use Rattle.yaml_parser.specs.declared.names.Keeping.{Keeping}
use Rattle.yaml_parser.specs.declared.names.Names as kept_names
use Rattle.yaml_parser.specs.declared.tokens.Tokens.{Tokens}
use Rattle.yaml_parser.specs.declared.slot.EventSlot.{EventSlot}
use Rattle.yaml_tokens.specs.declared.problem.Fault.{Fault}
use Rattle.yaml_parser.specs.declared.reader.Reader.{Reader}
use Rattle.yaml_parser.specs.Ahead.{Skips}
use Rattle.yaml_parser.specs.Blames.{Blames}
use Rattle.yaml_parser.specs.Derived.{stood}
use Rattle.yaml_parser.specs.Halts.{IsHalted}
use Rattle.yaml_parser.specs.Handed.{taken_toks, peeked_tok, last_position, BeginAt, IsHanded, IsAwake, IsStopped}
use Rattle.yaml_parser.specs.Named.{IsNamed}
use Rattle.yaml_parser.specs.Settings.{named_since, names_since}
use Rattle.yaml_parser.specs.Shown.{placed, ev_of}

abbrev pub is_over : Goal → Bool
is_over at.ended = true
is_over _ = false

abbrev pub is_done : Goal → Bool
is_done at.done = true
is_done _ = false

abbrev pub is_pair_end : Goal → Bool
is_pair_end at.flow_pair_end = true
is_pair_end _ = false

-- whether it looks at no token here
abbrev pub is_idle : Goal → Bool
is_idle g = is_over g || (is_done g || is_pair_end g)

-- Where a value is read, or is next, whose `:` stands there, this was the last token.
abbrev pub IsPastColon : Goal → Option Position → Type 0
IsPastColon (at.flow_mapping_valued m) last = last ≡ Some m
IsPastColon g last = Unit {0}

-- after the brace of a flow mapping, or after the comma that stands there
abbrev pub start_after : Option Position → Start
start_after None = after_brace
start_after (Some m) = after_comma

-- ---- names

-- all events with their names resolved, by the settings with which they are read
abbrev pub named_by : Keeping → List Raw → Option (List Ev)
named_by k raw = named_since k.settings.items k.tags no_names raw

-- the names after them
abbrev pub names_by : Keeping → List Raw → Names
names_by k raw = names_since k.settings.items k.tags no_names raw

-- the names that are kept where this is read: directives count as soon as they are read
abbrev pub names_at : Bool → Goal → Names → Names
names_at keep (at.directives ds) names = at_document keep names ds
names_at keep g names = names

-- What was read and is not yet given can be resolved.
abbrev pub IsPending : Names → Goal → Type 0
IsPending names (at.directives ds) = are_allowed ds ≡ true
IsPending names (at.after_tag p t) = IsSome (resolved names.handles t)
IsPending names (at.content p (Some o)) = IsSome (perhaps_resolved names.handles (tag_of o))
IsPending names g = Unit {0}

-- ---- productions

-- The tokens and the stack are where this is read: what they still take completes the tokens taken to a stream, with these raw events at the
-- positions of those that were given.
pub record IsPlaced {T : Type 0} (g : Goal) (stack : List State) (tokens : Tokens T) (given : List (Ev × Position)) (raw : List Raw) : Type 0 where
  pub stands : IsOnTrack g stack (taken_toks tokens) (peeked_tok tokens) raw
  pub handed : IsHanded tokens
  pub awake : is_over g ≡ false → IsAwake tokens
  pub over : is_over g ≡ true → tokens.peeked ≡ None
  pub places : (x : Extent) (ts : List defs.Token) (es : List (Raw × Position)) → BeginAt tokens.peeked ts → AwaitsAt x (last_position tokens) g stack ts es
      → StreamPlacesTo x (all_shown tokens.taken.items ++ ts) (stood raw given ++ es)
  pub colon : IsPastColon (top g stack) (last_position tokens)

-- The events that were given are these raw ones with their names resolved; and the code's names are these, which are those after them.
pub record IsTold (g : Goal) (kept : kept_names.Names) (names : Names) (given : List (Ev × Position)) (raw : List Raw) : Type 0 where
  pub count : length raw ≡ length given
  pub few : length kept.keeping.settings.items ≤ length raw
  pub events : named_by kept.keeping raw ≡ Some (events_of given)
  pub names_are : names_by kept.keeping raw ≡ names
  pub code : IsNamed kept (names_at kept.keeping.tags g names)
  pub pending : IsPending names g

-- It reads this production; these events were given, and these are the names after them.
pub record At {T : Type 0} (g : Goal) (p : Reader T) (names : Names) (given : List (Ev × Position)) : Type 0 where
  pub raw : List Raw
  pub place : IsPlaced g p.stack p.tokens given raw
  pub open place use *
  pub told : IsTold g p.names names given raw
  pub open told use *

-- The last token was refused.
pub record IsStuck {T : Type 0} (p : Reader T) (given : List (Ev × Position)) (problem : Problem) (mark : Position) : Type 0 where
  pub blames : Blames (fault_of (fault.At problem mark) mark) p.names.keeping.settings.items p.names.keeping.tags (scanned p.tokens.scanner).given given

abbrev pub Faulted : {T : Type 0} → Reader T → List (Ev × Position) → Option Fault → Type 0
Faulted p given (Some OutOfMemory) = Unit {0}
Faulted p given (Some (fault.At problem mark)) = IsStuck p given problem mark
Faulted p given None = IsStopped (scanned p.tokens.scanner) × IsHalted p.names.keeping.settings.items p.names.keeping.tags (scanned p.tokens.scanner).given given

abbrev pub goal_after_event : Ev → Goal
goal_after_event Ev.stream_end = at.ended
goal_after_event _ = at.done

-- An event more, or a fault.
abbrev pub Answers : {T : Type 0} → Reader T → List (Ev × Position) → Result (Event × Position) (Option Fault) → Type 0
Answers p given (Ok e) = (names : Names) × At (goal_after_event (ev_of e.0)) p names (given ++ placed e ∷ [])
Answers p given (Err s) = Faulted p given s

-- what a slot holds after this answer
abbrev pub answered : {E : Type 0} → Result (Unit {0}) E → EventSlot → Result (Event × Position) (Option Fault)
answered (Ok u) slot = Ok slot.next
answered (Err e) slot = Err slot.fault

-- the same of what is no event
abbrev pub with_fault : {A E : Type 0} → Result A E → EventSlot → Result A (Option Fault)
with_fault (Ok x) slot = Ok x
with_fault (Err e) slot = Err slot.fault

-- what a production comes to
pub record Reads {T E : Type 0} (g : Goal) (old new : Reader T) (result : Result (Unit {0}) E) (slot : EventSlot) : Type 0 where
  pub so : (names : Names) (given : List (Ev × Position)) → At g old names given → Answers new given (answered result slot)

-- What is read from the new reader on is read from the old one on.
abbrev pub Passes : {T : Type 0} → Goal → Reader T → Reader T → Type 0
Passes {T} g old new = (final : Reader T) (result : Result (Unit {0}) Failed) (slot : EventSlot) → Reads g new final result slot → Reads g old final result slot

-- It fails so.
abbrev pub Stops : {T : Type 0} → Goal → Reader T → Reader T → EventSlot → Type 0
Stops g old new slot = (result : Result (Unit {0}) Failed) → IsErr result → Reads g old new result slot

abbrev pub Carries : {T : Type 0} → Goal → Reader T → Reader T → Type 0
Carries g old new = (names : Names) (given : List (Ev × Position)) → At g old names given → At g new names given

abbrev pub Fails : {T : Type 0} → Goal → Reader T → Reader T → Option Fault → Type 0
Fails g old new s = (names : Names) (given : List (Ev × Position)) → At g old names given → Faulted new given s

-- ---- steps

-- The token that was looked at was taken.
pub record Took {T : Type 0} (old : Reader T) (t : Token) (new : Reader T) (states : List State) : Type 0 where
  pub tokens : Skips old.tokens t new.tokens
  pub stack : new.stack ≡ states
  pub names : new.names ≡ old.names

-- No token was taken.
pub record Stayed {T : Type 0} (old new : Reader T) (states : List State) : Type 0 where
  pub tokens : new.tokens ≡ old.tokens
  pub stack : new.stack ≡ states
  pub names : new.names ≡ old.names
