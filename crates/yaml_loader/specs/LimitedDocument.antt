-- What the reading of one document within limits does with a parser.
use Rattle.std.specs.Prelude.{◌≡◌, ◌<◌, List, [], ◌∷◌, ◌++◌, Option, Some, None, Result, Ok, Err}
use Rattle.defs_text.specs.Position.{Position}
use Rattle.defs_event.specs.Event.{Ev}
use Rattle.yaml_tree.specs.View.{view}
use Rattle.yaml_tree.specs.declared.yaml.Yaml.{Yaml}
use Rattle.yaml_parser.specs.Parsed.{Parsed}
use Rattle.yaml_loader.specs.OneDocument.{HasNoEnd, IsRead, Reads, Stops, finished}
use Rattle.yaml_loader.specs.Handing.{HoldsBack}
use Rattle.yaml_loader.specs.Made.{Made, made, IsWithin}
use Rattle.yaml_loader.specs.Sizes.{AreWithin}
use Rattle.yaml_loader.specs.declared.limits_error.LimitsError.{LimitsError}
use Rattle.yaml_loader.specs.declared.limits_error.LimitsError.TheVariants as error
use Rattle.yaml_loader.specs.declared.limits.Limits.{Limits}

-- The document that was read, of these events, is within the limits, and so is what a load makes of them.
pub record IsReadWithin (limits : Limits) (old now : Parsed) (t : Yaml) : Type 0 where
  pub events : List (Ev × Position)
  pub position : Position
  pub no_end : HasNoEnd events
  pub given : now.given ≡ old.given ++ (events ++ (Ev.document_end, position) ∷ [])
  pub within : IsWithin limits (made (events ++ (Ev.document_end, position) ∷ []))
  pub document : AreWithin limits (view t ∷ [])

-- Of the next document came these events, none of them an end. What a load makes of those before the last is within the limits, and what
-- it makes of all of them, the last at this position, goes over them so.
pub record GoesOver (limits : Limits) (exceeds : Made → Type 0) (old now : Parsed) (p : Position) : Type 0 where
  pub events : List (Ev × Position)
  pub last : Ev
  pub no_end : HasNoEnd (events ++ (last, p) ∷ [])
  pub given : now.given ≡ old.given ++ (events ++ (last, p) ∷ [])
  pub is_read : IsRead now
  pub within : IsWithin limits (made events)
  pub over : exceeds (made (events ++ (last, p) ∷ []))

-- The parser has a fault since too many tokens wait.
pub record HoldsTokens (limits : Limits) (old now : Parsed) (p : Position) : Type 0 where
  pub same : finished now ≡ finished old
  pub holds : HoldsBack limits now.scanner.backlog p

pub data IsTooLarge (limits : Limits) (old now : Parsed) (p : Position) : Type 0 where
  by_nodes : GoesOver limits (λ m. limits.size < m.size) old now p → IsTooLarge limits old now p
  by_tokens : HoldsTokens limits old now p → IsTooLarge limits old now p

abbrev pub IsSmall : Limits → Parsed → Option Yaml → Parsed → Type 0
IsSmall limits old None now = Unit {0}
IsSmall limits old (Some t) now = IsReadWithin limits old now t

abbrev pub ReadsWithin : Limits → Parsed → Result (Option Yaml) LimitsError → Parsed → Type 0
ReadsWithin limits old (Ok o) now = Reads old (Ok o) now × IsSmall limits old o now
ReadsWithin limits old (Err (error.Scan f)) now = Stops old f now
ReadsWithin limits old (Err (error.Levels p)) now = GoesOver limits (λ m. limits.levels < m.levels) old now p
ReadsWithin limits old (Err (error.Size p)) now = IsTooLarge limits old now p
