-- What a call that decodes made of an input.
use Rattle.std.specs.Prelude.{ℕ, ◌<◌, ◌≤◌, length, List, [], drop, Result, Ok, Err, String, ⊤}
use Rattle.std.specs.declared.alloc.Global.{Global}
use Rattle.defs_text.specs.Text.{string_chars}
use Rattle.yaml_encoding.specs.Decoding.{Outcome, text, stopped, Steps, IsCalled, IsDecodedByCalls, parts, parts_from, reading, Encoding}
use Rattle.yaml_encoding.specs.declared.stop.Stop.{Stop}
use Rattle.yaml_encoding.specs.declared.stop.Stop.TheVariants.{Message, OutOfMemory}

-- what holds of the outcome at a stop; nothing where memory was refused
abbrev pub StopIs : Stop → (Outcome → Type 0) → Type 0
StopIs (Message m) P = P (stopped (string_chars m))
StopIs OutOfMemory P = ⊤

-- what holds of the outcome of a call that answers a text; nothing where memory was refused
abbrev pub OutcomeIs : Result (String Global) Stop → (Outcome → Type 0) → Type 0
OutcomeIs (Ok s) P = P (text (string_chars s))
OutcomeIs (Err stop) P = StopIs stop P

-- the same of a call that leaves a text
abbrev pub LeftIs : Result (Unit {0}) Stop → String Global → (Outcome → Type 0) → Type 0
LeftIs (Ok u) s P = P (text (string_chars s))
LeftIs (Err stop) s P = StopIs stop P

-- An input is read up to a position, with this text so far: what comes of the rest comes of it all.
pub record IsRead (step : Steps) (encoding : Encoding) (input : List ℕ) (at : ℕ) (so_far : List ℕ) : Type 0 where
  pub goes : (outcome : Outcome) → IsCalled step (parts_from (reading encoding) 0 at (drop at input)) so_far outcome → IsCalled step (parts input) [] outcome

-- A part of an input is read at a position: up to the position after it, or to a stop.
abbrev pub Passes : (step : Steps) → (encoding : Encoding) → (input : List ℕ) → (at : ℕ) → (so_far next : List ℕ) → Result ℕ Stop → Type 0
Passes step e input at so_far next (Ok after) = (at < after) × (after ≤ length input) × (IsRead step e input at so_far → IsRead step e input after next)
Passes step e input at so_far next (Err stop) = IsRead step e input at so_far → StopIs stop (IsDecodedByCalls step input)
