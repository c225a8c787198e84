-- What comes of a text whose events are handed to a receiver within limits.
use Rattle.std.specs.Prelude.{◌≡◌, ℕ, ◌+◌, ◌<◌, false, List, [], ◌∷◌, ◌++◌, Option, Some, None, Result, Ok, Err}
use Rattle.defs_text.specs.Position.{Position}
use Rattle.defs_event.specs.Event.{Ev}
use Rattle.yaml_tokens.specs.ErrorReport.{ErrorReport}
use Rattle.yaml_scanner.specs.Waits.{Waits}
use Rattle.yaml_scanner.specs.declared.fetcher.Backlog.{Backlog}
use Rattle.yaml_parser.specs.Loads.{Receives}
use Rattle.proof_loads.specs.PlacedEvents.{HasEvents}
use Rattle.proof_loads.specs.TextEvents.{BeginsEvents, IsFaultOf}
use Rattle.yaml_loader.specs.Loading.{want_of_memory}
use Rattle.yaml_loader.specs.Made.{made, IsWithin}
use Rattle.yaml_loader.specs.declared.count.Excess.{Excess}
use Rattle.yaml_loader.specs.declared.count.Excess.TheVariants as excess
use Rattle.yaml_loader.specs.declared.limits_error.LimitsError.{LimitsError}
use Rattle.yaml_loader.specs.declared.limits_error.LimitsError.TheVariants as error
use Rattle.yaml_loader.specs.declared.limits.Limits.{Limits}

-- Why a text goes over limits: its events begin so, what a load makes of those before the last is within the limits, and with the last,
-- which is at this position, it is not; or, where the text is read up to this position, more tokens wait than may.
pub data IsOver (limits : Limits) (text : List ℕ) : LimitsError → Type 0 where
  too_deep : (es : List (Ev × Position)) (e : Ev) (p : Position) → BeginsEvents false text (es ++ (e, p) ∷ []) → IsWithin limits (made es)
      → limits.levels < (made (es ++ (e, p) ∷ [])).levels → IsOver limits text (error.Levels p)
  too_large : (es : List (Ev × Position)) (e : Ev) (p : Position) → BeginsEvents false text (es ++ (e, p) ∷ []) → IsWithin limits (made es)
      → limits.size < (made (es ++ (e, p) ∷ [])).size → IsOver limits text (error.Size p)
  too_many : (count : ℕ) (p : Position) → Waits text p count → limits.size + 1000 < count → IsOver limits text (error.Size p)

-- Why a receiver has not taken all events of a text: the parser has this fault, or memory was refused; or the receiver refused the text's
-- next event so; or the text goes over the limits.
pub data IsNotHanded {R : Type 0} (takes : R → Ev → Position → Result (Unit {0}) ErrorReport → R → Type 0) (limits : Limits) (text : List ℕ) (r : R) : LimitsError → Type 0 where
  by_parser : (f : ErrorReport) → IsFaultOf false text f → IsNotHanded takes limits text r (error.Scan f)
  by_receiver : {s t : R} {f : ErrorReport} (es : List (Ev × Position)) (e : Ev) (p : Position) → BeginsEvents false text (es ++ (e, p) ∷ []) → Receives takes r es s → takes s e p (Err f) t
      → IsNotHanded takes limits text r (error.Scan f)
  by_limits : (x : LimitsError) → IsOver limits text x → IsNotHanded takes limits text r x

-- A receiver took all events of a text, each with `Ok`, and what a load makes of them is within the limits.
pub record IsHanded {R : Type 0} (takes : R → Ev → Position → Result (Unit {0}) ErrorReport → R → Type 0) (limits : Limits) (text : List ℕ) (r s : R) : Type 0 where
  pub events : List (Ev × Position)
  pub has : HasEvents false text events
  pub received : Receives takes r events s
  pub within : IsWithin limits (made events)

abbrev pub Hands : {R : Type 0} → (R → Ev → Position → Result (Unit {0}) ErrorReport → R → Type 0) → Limits → List ℕ → R → Result (Unit {0}) LimitsError → R → Type 0
Hands takes limits text r (Ok u) s = IsHanded takes limits text r s
Hands takes limits text r (Err e) s = IsNotHanded takes limits text r e

-- ---- on the way

-- where more tokens waited than may
abbrev pub HoldsBack : Limits → Option Backlog → Position → Type 0
HoldsBack limits None p = ⊥
HoldsBack limits (Some b) p = (b.mark ≡ p) × (limits.size + 1000 < b.tokens)

abbrev pub error_of : Excess → Position → LimitsError
error_of excess.Levels p = error.Levels p
error_of excess.Size p = error.Size p
error_of excess.OutOfMemory p = error.Scan (want_of_memory p)

-- why an event was refused with a fault: where a guard stopped it, the excess
abbrev pub error_by : Option (Excess × Position) → ErrorReport → LimitsError
error_by None f = error.Scan f
error_by (Some x) f = error_of x.0 x.1

abbrev pub outcome_by : Option (Excess × Position) → Result (Unit {0}) ErrorReport → Result (Unit {0}) LimitsError
outcome_by stopped (Ok u) = Ok u
outcome_by stopped (Err f) = Err (error_by stopped f)
