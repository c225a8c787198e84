-- The state of a loader, as clauses see it, and what it makes of one more event.
-- YAML 1.2, section 3.1 (construction); the faults and what is kept of them are this project's.
use Rattle.std.specs.Prelude.{◌≡◌, ◌⊎◌, Option, Some, None, IfSome, Result, Err, OnOk, OnErr, IfErr, IsOk, codes, string_bytes, List}
use Rattle.defs_text.specs.Position.{Position}
use Rattle.defs_event.specs.Event.{Ev}
use Rattle.defs_event.specs.Unfinished.{Opened, Unfinished, with_event, Loader, at_work, noted, refused, with_event_at, documents_of, refused_at}
use Rattle.yaml_tokens.specs.ErrorReport.{ErrorReport, fixed_at, memory_at}
use Rattle.yaml_loader.specs.declared.loader.LoaderState.{LoaderState}
use Rattle.yaml_loader.specs.declared.loader.LoaderState.TheVariants as state
use Rattle.yaml_loader.specs.declared.loader.YamlLoader.{YamlLoader}
use Rattle.yaml_loader.specs.declared.reading.Refusal.{Refusal}
use Rattle.yaml_loader.specs.Alike.{StandAlike}
use Rattle.yaml_loader.specs.RepeatedKey.{TellsKey}
use Rattle.yaml_loader.specs.View.{unfinished_of, repeated_key, IsRefusedBy}

-- by how it goes on, over what was read
abbrev pub loader_by : LoaderState → Unfinished → Loader
loader_by state.Reading u = at_work u
loader_by (state.RepeatedKey position text) u = noted u.documents (repeated_key u.opened) position
loader_by (state.OutOfNesting position) u = refused u.documents position
loader_by (state.OutOfMemory position) u = refused u.documents position

-- the loader
abbrev pub loader_of : YamlLoader → Loader
loader_of l = loader_by l.state (unfinished_of l.reading)

-- out of memory at a position
abbrev pub want_of_memory : Position → ErrorReport
want_of_memory position = memory_at position

-- an event out of nesting at a position
abbrev pub event_out_of_nesting : Position → ErrorReport
event_out_of_nesting position = fixed_at position (codes "event out of nesting")

abbrev pub kept_by : LoaderState → Option ErrorReport
kept_by state.Reading = None
kept_by (state.RepeatedKey position text) = None
kept_by (state.OutOfNesting position) = Some (event_out_of_nesting position)
kept_by (state.OutOfMemory position) = Some (want_of_memory position)

-- the fault that is kept, where one is: every later event is answered the same
abbrev pub kept_fault : YamlLoader → Option ErrorReport
kept_fault l = kept_by l.state

-- A new fault with an event at this position, after which the loader would be this one: out of memory, or
-- that of an event out of nesting, where this one refuses it.
abbrev pub IsNewFault : ErrorReport → Position → Loader → Type 0
IsNewFault f position l = (f ≡ want_of_memory position) ⊎ ((f ≡ event_out_of_nesting position) × (refused_at l ≡ Some position))

-- a loader that has noted a key that came twice
abbrev pub HasNotedKey : Loader → Type 0
HasNotedKey (noted documents key position) = Unit {0}
HasNotedKey _ = ⊥

abbrev pub TellsBy : LoaderState → List Opened → Type 0
TellsBy (state.RepeatedKey position text) opened = TellsKey (repeated_key opened) (string_bytes text)
TellsBy _ opened = Unit {0}

-- Where a loader has noted a key that came twice, the text that it keeps tells this key.
abbrev pub TellsNotedKey : YamlLoader → Type 0
TellsNotedKey l = TellsBy l.state (unfinished_of l.reading).opened

-- What a loader makes of an event at its position.
pub record Takes (old : YamlLoader) (e : Ev) (position : Position) (result : Result (Unit {0}) ErrorReport) (new : YamlLoader) : Type 0 where
  -- On `Ok` the loader is the one after the event, and keeps no fault.
  pub reads : OnOk result (StandAlike (with_event_at (loader_of old) e position) (loader_of new))
  pub goes_on : OnOk result (kept_fault new ≡ None)
  -- A fault is kept, and the documents stay.
  pub keeps : IfErr result (λ f. kept_fault new ≡ Some f)
  pub documents : OnErr result (documents_of (loader_of new) ≡ documents_of (loader_of old))
  -- A fault that was kept is returned again.
  pub again : IfSome (kept_fault old) (λ f. result ≡ Err f)
  -- Any other fault has its reason.
  pub reason : IfErr result (λ f. kept_fault old ≡ None → IsNewFault f position (with_event_at (loader_of old) e position))
  -- Once a key that came twice was noted, the result is always `Ok`.
  pub ignores : HasNotedKey (loader_of old) → IsOk result
  -- The text that is kept with such a key goes on to tell it.
  pub tells : TellsNotedKey old → TellsNotedKey new

-- What a loader that is at work makes of an event which its reading refused, whatever the event was: so it takes the event.
abbrev pub Stops : YamlLoader → Refusal → Position → Result (Unit {0}) ErrorReport → YamlLoader → Type 0
Stops stopped refusal position result new =
    (old : YamlLoader) (e : Ev) → old.state ≡ state.Reading → IsRefusedBy refusal (with_event (unfinished_of old.reading) e) (unfinished_of stopped.reading).opened
    → (unfinished_of stopped.reading).documents ≡ (unfinished_of old.reading).documents → Takes old e position result new
