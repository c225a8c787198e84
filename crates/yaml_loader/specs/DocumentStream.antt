-- What clauses see of documents that are read one by one, and what each call gives.
use Rattle.std.specs.Prelude.{◌≡◌, ℕ, ◌+◌, ◌++◌, if◌then◌else◌, Bool, true, false, List, [], ◌∷◌, Option, Some, None, Result, Ok, Err}
use Rattle.defs_text.specs.Position.{Position}
use Rattle.defs_tree.specs.Tree.{Tree}
use Rattle.yaml_tokens.specs.ErrorReport.{ErrorReport}
use Rattle.defs_text.specs.Text.{up_to_nul}
use Rattle.defs_event.specs.Event.{Ev}
use Rattle.defs_event.specs.Unfinished.{new_loader, with_events, documents_of}
use Rattle.yaml_tree.specs.View.{view}
use Rattle.yaml_tree.specs.declared.yaml.Yaml.{Yaml}
use Rattle.yaml_parser.specs.Parsed.{Parse, parsed}
use Rattle.defs_event.specs.Meaning.{Means}
use Rattle.yaml_loader.specs.Meant.{OfGiven}
use Rattle.yaml_loader.specs.FirstDocuments.{BeginsAs, IsStopped}

pub record Stream (T : Type 0) : Type 0 where
  -- the iterator of characters, as it was given
  pub start : T
  -- the events that the parser gave so far, with their positions
  pub events : List (Ev × Position)
  -- whether no document comes any more: the stream has ended, or a fault was given
  pub over : Bool
  -- a bound on the items to come
  pub left : ℕ

-- what a parser stands for, and whether it is asked for more
abbrev pub stream_of : {T : Type 0} → Parse T → Bool → Stream T
stream_of p over = record { start = p.start; events = (parsed p).given; over = over; left = if over then 0 else (parsed p).left + 1 }

-- The documents that were given: all that these events finish.
abbrev pub given : {T : Type 0} → Stream T → List Tree
given s = documents_of (with_events new_loader s.events)

-- whether no more comes after this answer
abbrev pub is_last : Option (Result Yaml ErrorReport) → Bool
is_last (Some (Ok t)) = false
is_last _ = true

-- The documents that were given before and after a call: the one that it answers is all that came. So at a fault no document is left
-- out that ends before it. Where memory was refused, the document that was read is lost.
abbrev pub Adds : List Tree → Option (Result Yaml ErrorReport) → List Tree → Type 0
Adds old None new = new ≡ old
Adds old (Some (Ok t)) new = new ≡ old ++ view t ∷ []
Adds old (Some (Err f)) new = f.memory ≡ false → new ≡ old

-- What an answer says of the text, after which these documents were given: they are its first; after `None` the text means
-- them; and a fault has its reason in the text.
abbrev pub Says : List ℕ → List Tree → Option (Result Yaml ErrorReport) → Type 0
Says text trees None = Means false text trees
Says text trees (Some (Ok t)) = BeginsAs false text trees
Says text trees (Some (Err f)) = IsStopped false text trees f

-- one call of `next`; `steps` is what the iterator of characters does
pub record Gives {T : Type 0} (steps : T → Option ℕ → T → Type 0) (old : Stream T) (result : Option (Result Yaml ErrorReport)) (new : Stream T) : Type 0 where
  pub start : new.start ≡ old.start
  -- After `None` or a fault comes `None` forever.
  pub again : old.over ≡ true → (result ≡ None) × (new ≡ old)
  pub over : new.over ≡ is_last result
  pub adds : Adds (given old) result (given new)
  pub says : old.over ≡ false → OfGiven steps old.start (λ text. Says (up_to_nul text) (given new) result)
