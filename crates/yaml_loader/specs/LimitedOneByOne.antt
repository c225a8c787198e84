-- What clauses see of documents that are read one by one within limits, and what each call gives.
-- YAML 1.2, sections 3.1 (construction) and 9.2 (streams).
use Rattle.std.specs.Prelude.{◌≡◌, ℕ, ◌+◌, ◌<◌, ◌++◌, Bool, true, false, List, [], ◌∷◌, Option, Some, None, Result, Ok, Err}
use Rattle.defs_text.specs.Position.{Position}
use Rattle.defs_text.specs.Text.{up_to_nul}
use Rattle.defs_tree.specs.Tree.{Tree}
use Rattle.defs_event.specs.Event.{Ev}
use Rattle.defs_event.specs.Laws.{HasRead}
use Rattle.defs_event.specs.Unfinished.{new_loader, with_events}
use Rattle.yaml_tokens.specs.ErrorReport.{ErrorReport}
use Rattle.yaml_tree.specs.View.{view}
use Rattle.yaml_tree.specs.declared.yaml.Yaml.{Yaml}
use Rattle.yaml_scanner.specs.Waits.{Waits}
use Rattle.proof_loads.specs.TextEvents.{BeginsEvents}
use Rattle.defs_event.specs.Meaning.{Means}
use Rattle.yaml_loader.specs.Meant.{OfGiven}
use Rattle.yaml_loader.specs.FirstDocuments.{BeginsAs, IsStopped}
use Rattle.yaml_loader.specs.OneDocument.{HasNoEnd}
use Rattle.yaml_loader.specs.DocumentStream.{Stream, given}
use Rattle.yaml_loader.specs.Made.{made, IsWithin}
use Rattle.yaml_loader.specs.Sizes.{AreWithin}
use Rattle.yaml_loader.specs.declared.limits_error.LimitsError.{LimitsError}
use Rattle.yaml_loader.specs.declared.limits_error.LimitsError.TheVariants as error
use Rattle.yaml_loader.specs.declared.limits.Limits.{Limits}

pub record LimitedStream (T : Type 0) : Type 0 where
  -- the documents, as without limits
  pub stream : Stream T
  pub limits : Limits

-- After the events of the documents that are read as these trees, the text has these.
pub record ComesNext (text : List ℕ) (trees : List Tree) (events : List (Ev × Position)) : Type 0 where
  pub before : List (Ev × Position)
  pub read : HasRead (Ok trees) (with_events new_loader before)
  pub begins : BeginsEvents false text (before ++ events)

-- The document after these trees is within the limits, and so is what a load makes of its events.
pub record IsDocumentWithin (limits : Limits) (text : List ℕ) (trees : List Tree) (t : Tree) : Type 0 where
  pub events : List (Ev × Position)
  pub position : Position
  pub no_end : HasNoEnd events
  pub comes : ComesNext text trees (events ++ (Ev.document_end, position) ∷ [])
  pub within : IsWithin limits (made (events ++ (Ev.document_end, position) ∷ []))
  pub document : AreWithin limits (t ∷ [])

-- Why no document comes after these trees, the first of the text: no document comes without limits; or the next document goes over
-- them. Its events begin so, what a load makes of those before the last is within the limits, and with the last, which is at this position, it
-- is not; or, where the text is read up to this position, more tokens wait than may.
pub data IsStoppedWithin (limits : Limits) (text : List ℕ) (trees : List Tree) : LimitsError → Type 0 where
  stopped : (f : ErrorReport) → IsStopped false text trees f → IsStoppedWithin limits text trees (error.Scan f)
  too_deep : (es : List (Ev × Position)) (e : Ev) (p : Position) → HasNoEnd (es ++ (e, p) ∷ []) → ComesNext text trees (es ++ (e, p) ∷ []) → IsWithin limits (made es)
      → limits.levels < (made (es ++ (e, p) ∷ [])).levels → IsStoppedWithin limits text trees (error.Levels p)
  too_large : (es : List (Ev × Position)) (e : Ev) (p : Position) → HasNoEnd (es ++ (e, p) ∷ []) → ComesNext text trees (es ++ (e, p) ∷ []) → IsWithin limits (made es)
      → limits.size < (made (es ++ (e, p) ∷ [])).size → IsStoppedWithin limits text trees (error.Size p)
  too_many : (count : ℕ) (p : Position) → Waits text p count → limits.size + 1000 < count → IsStoppedWithin limits text trees (error.Size p)

-- whether no more comes after this answer
abbrev pub is_last : Option (Result Yaml LimitsError) → Bool
is_last (Some (Ok t)) = false
is_last _ = true

-- The documents that were given before and after a call: the one that it answers is all that came. Where memory was refused, the document
-- that was read is lost.
abbrev pub Adds : List Tree → Option (Result Yaml LimitsError) → List Tree → Type 0
Adds old None new = new ≡ old
Adds old (Some (Ok t)) new = new ≡ old ++ view t ∷ []
Adds old (Some (Err (error.Scan f))) new = f.memory ≡ false → new ≡ old
Adds old (Some (Err (error.Levels p))) new = new ≡ old
Adds old (Some (Err (error.Size p))) new = new ≡ old

-- What an answer says of the text, before and after which these documents were given: they are its first; after `None` the text
-- means them; the one that is answered is within the limits; and an error has its reason in the text.
abbrev pub Says : Limits → List ℕ → List Tree → Option (Result Yaml LimitsError) → List Tree → Type 0
Says limits text old None new = Means false text new
Says limits text old (Some (Ok t)) new = BeginsAs false text new × IsDocumentWithin limits text old (view t)
Says limits text old (Some (Err e)) new = IsStoppedWithin limits text new e

-- one call of `next`; `steps` is what the iterator of characters does
pub record GivesWithin {T : Type 0} (steps : T → Option ℕ → T → Type 0) (old : LimitedStream T) (result : Option (Result Yaml LimitsError)) (new : LimitedStream T) : Type 0 where
  pub start : new.stream.start ≡ old.stream.start
  pub limits : new.limits ≡ old.limits
  -- After `None` or an error comes `None` forever.
  pub again : old.stream.over ≡ true → (result ≡ None) × (new ≡ old)
  pub over : new.stream.over ≡ is_last result
  pub adds : Adds (given old.stream) result (given new.stream)
  pub says : old.stream.over ≡ false → OfGiven steps old.stream.start (λ text. Says old.limits (up_to_nul text) (given old.stream) result (given new.stream))
