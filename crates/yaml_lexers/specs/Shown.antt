-- What the code of flow scalars holds, as the model's states.
use Rattle.std.specs.Prelude.{◌≡◌, ◌≢◌, ℕ, List, [], Result, Ok, Err, true, false}
use Rattle.defs_text.specs.Position.{Position}
use Rattle.yaml_chars.specs.WindowView.{WindowView, Reads, position_of}
use Rattle.yaml_chars.specs.Words.{TakesWords}
use Rattle.yaml_chars.specs.declared.run.Run.{Run}
use Rattle.defs_text.specs.Text.{string_chars}
use Rattle.yaml_tokens.specs.declared.problem.Fault.{Fault}
use Rattle.yaml_tokens.specs.declared.problem.Fault.TheVariants.{OutOfMemory}
use Rattle.yaml_lexers.specs.declared.folding.Folding.{Folding}
use Rattle.yaml_lexers.specs.declared.plain.Plain as code
use Rattle.model_scanner.specs.Machine.{Read}
use Rattle.model_scanner.specs.Folding.{Folded}
use Rattle.model_scanner.specs.declared.context.Context.{Context}
use Rattle.model_scanner.specs.Plain.{Mode, PlainState, Plain, ends_gap, goes_on}

abbrev pub folded : Folding → Folded
folded p = record { text = p.text; gap = p.gap; leading = p.leading; escaped = p.escaped }

-- what was read of a plain scalar in front of a window's next characters
abbrev pub at_folded : {T : Type 0} → Mode → WindowView T → Folded → PlainState
at_folded mode w t = record { mode = mode; position = position_of w; folded = t }

abbrev pub at : {T : Type 0} → Mode → WindowView T → Folding → PlainState
at mode w p = at_folded mode w (folded p)

-- words went into a text that nothing stood behind, or none were read
pub data AddsWords (run : Run) (a b : List ℕ) (p q : Position) (t u : Folded) : Type 0 where
  none : b ≡ a → q ≡ p → u ≡ t → AddsWords run a b p q t u
  some : t.gap ≡ [] → t.leading ≡ false → t.escaped ≡ false → TakesWords run a b p q t.text u.text → u ≡ record t { text = u.text } → AddsWords run a b p q t u

abbrev pub plain_shown : code.Plain → Plain
plain_shown s = record { text = string_chars s.text; leading = s.leading }

-- a plain scalar ends where a window stands
abbrev pub EndsHere : {T : Type 0} → Context → WindowView T → List ℕ → Type 0
EndsHere context w a = (ends_gap a ≡ true) × (goes_on context a (position_of w) ≡ Ok false)

-- what is left after a function
abbrev pub read : {T A : Type 0} → List ℕ → WindowView T → A → Read A
read b w x = record { rest = b; position = position_of w; value = x }

-- what is left is read as the model reads it
abbrev pub Lexes : {T A : Type 0} → (List ℕ → Position → Result (Read A) Fault) → WindowView T → WindowView T → A → Type 0
Lexes f old new x = Reads old new (λ a b. f a (position_of old) ≡ Ok (read b new x))

-- the model refuses what is left with this fault, unless memory was refused
abbrev pub Refuses : {T A : Type 0} → (List ℕ → Position → Result (Read A) Fault) → WindowView T → WindowView T → Fault → Type 0
Refuses f old new fault = Reads old new (λ a b. fault ≢ OutOfMemory → f a (position_of old) ≡ Err fault)
