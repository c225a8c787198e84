-- What a load within limits gives. YAML 1.2, section 3.1 (construction).
use Rattle.std.specs.Prelude.{ℕ, false, List, Result, Ok, Err, IfOk, IfErr, Vec}
use Rattle.std.specs.declared.alloc.Global.{Global}
use Rattle.defs_text.specs.Position.{Position}
use Rattle.defs_event.specs.Event.{Ev}
use Rattle.yaml_tokens.specs.ErrorReport.{ErrorReport}
use Rattle.yaml_tree.specs.View.{items_view}
use Rattle.yaml_tree.specs.declared.yaml.Yaml.{Yaml}
use Rattle.defs_event.specs.Meaning.{Means}
use Rattle.proof_loads.specs.PlacedEvents.{HasEvents}
use Rattle.yaml_loader.specs.Gives.{Gives}
use Rattle.yaml_loader.specs.Unread.{IsUnread}
use Rattle.yaml_loader.specs.declared.loader.YamlLoader.{YamlLoader}
use Rattle.yaml_loader.specs.Handing.{IsOver}
use Rattle.yaml_loader.specs.Made.{made, IsWithin}
use Rattle.yaml_loader.specs.Sizes.{AreWithin}
use Rattle.yaml_loader.specs.declared.limits_error.LimitsError.{LimitsError}
use Rattle.yaml_loader.specs.declared.limits_error.LimitsError.TheVariants as error
use Rattle.yaml_loader.specs.declared.limits.Limits.{Limits}

-- The text has events, and what a load makes of them is within the limits.
abbrev pub IsMadeWithin : Limits → List ℕ → Type 0
IsMadeWithin limits text = (es : List (Ev × Position)) × HasEvents false text es × IsWithin limits (made es)

-- Why a text is not loaded: a load without limits has this fault too; or the text goes over the limits.
pub data IsNotLoaded (limits : Limits) (text : List ℕ) : LimitsError → Type 0 where
  unread : (f : ErrorReport) → IsUnread false text f → IsNotLoaded limits text (error.Scan f)
  over : (x : LimitsError) → IsOver limits text x → IsNotLoaded limits text x

-- What a load of the text gives: the documents that a load without limits gives, if what it makes is within the limits, and then they are
-- within them too; or why not.
pub record Answers (limits : Limits) (text : List ℕ) (result : Result (Vec Yaml Global) LimitsError) : Type 0 where
  pub reads : IfOk result (λ documents. Means false text (items_view documents.items))
  pub within : IfOk result (λ documents. IsMadeWithin limits text)
  pub documents : IfOk result (λ documents. AreWithin limits (items_view documents.items))
  pub fault : IfErr result (λ e. IsNotLoaded limits text e)

-- what a loader gives, its fault as an error of a load within limits
abbrev pub GivesAll : YamlLoader → Result (Vec Yaml Global) LimitsError → Type 0
GivesAll l (Ok documents) = Gives l (Ok documents)
GivesAll l (Err (error.Scan f)) = Gives l (Err f)
GivesAll l (Err _) = ⊥
