-- What a loader of trees with positions makes of an event.
use Rattle.std.specs.Prelude.{◌≡◌, ◌⊎◌, ℕ, List, false, None, Result, Ok, Err, OnOk, IfErr}
use Rattle.defs_text.specs.Position.{Position}
use Rattle.defs_event.specs.Event.{Ev}
use Rattle.defs_event.specs.Unfinished.{new_loader}
use Rattle.defs_event.specs.Marking.{with_event_marked, nothing_marked}
use Rattle.yaml_tokens.specs.ErrorReport.{ErrorReport}
use Rattle.yaml_parser.specs.Loads as parser
use Rattle.proof_loads.specs.PlacedEvents.{HasEvents}
use Rattle.proof_loads.specs.TextEvents.{IsFaultOf}
use Rattle.yaml_loader.specs.Loading.{Takes, want_of_memory, loader_of, kept_fault}
use Rattle.yaml_loader.specs.Standing.{Goes, HasStanding}
use Rattle.yaml_loader.specs.declared.marked_receiver.MarkedLoader.{MarkedLoader}

-- The loader takes the event, and the marks go on by it. A fault is the loader's, or memory was refused.
pub record TakesMarked (old : MarkedLoader) (e : Ev) (position : Position) (result : Result (Unit {0}) ErrorReport) (new : MarkedLoader) : Type 0 where
  pub loads : OnOk result (Takes old.loader e position (Ok tt) new.loader)
  pub marks : OnOk result (Goes old.marking (λ x. with_event_marked x e position) new.marking)
  pub reason : IfErr result (λ f. (f ≡ want_of_memory position) ⊎ Takes old.loader e position (Err f) new.loader)

-- It has taken nothing.
pub record IsEmpty (s : MarkedLoader) : Type 0 where
  pub loader : loader_of s.loader ≡ new_loader
  pub no_fault : kept_fault s.loader ≡ None
  pub marks : HasStanding s.marking nothing_marked

-- It took all events of the text, each with `Ok`, and was empty before them.
pub record HasTaken (text : List ℕ) (s : MarkedLoader) : Type 0 where
  pub events : List (Ev × Position)
  pub has : HasEvents false text events
  pub before : MarkedLoader
  pub is_empty : IsEmpty before
  pub took : parser.Receives TakesMarked before events s

abbrev pub Receives : List ℕ → Result MarkedLoader ErrorReport → Type 0
Receives text (Ok s) = HasTaken text s
Receives text (Err f) = IsFaultOf false text f
