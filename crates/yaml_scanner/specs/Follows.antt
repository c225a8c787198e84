-- What was fetched and handed out, against the model's runs over each text that is still possible.
use Rattle.std.specs.Prelude.{◌≡◌, ◌≢◌, ◌≤◌, ◌<◌, ℕ, List, [], ◌∷◌, ◌++◌, drop, length, Bool, true, false, Option, Some, None, IfSome}
use Rattle.std.specs.List.{list_any}
use Rattle.defs_text.specs.Position.{Position}
use Rattle.yaml_chars.specs.WindowView.{Possible, position_of}
use Rattle.defs_token.specs.Token.{Token}
use Rattle.yaml_tokens.specs.declared.problem.Fault.{Fault}
use Rattle.yaml_tokens.specs.declared.problem.Fault.TheVariants.{OutOfMemory}
use Rattle.model_scanner.specs.State.{Key, ScannerState}
use Rattle.model_scanner.specs.Run.{Reaches, HasTokens, IsRefused, start}
use Rattle.yaml_scanner.specs.declared.fetcher.Fetcher.{Fetcher}
use Rattle.yaml_scanner.specs.ImplicitKeys.{is_front}
use Rattle.yaml_scanner.specs.Tokens.{handed, has_end, waiting}
use Rattle.yaml_scanner.specs.Shape.{state}
use Rattle.yaml_scanner.specs.Waits.{Waits, comes_before}

-- a list begins with another
pub record BeginsWith (xs ys : List Token) : Type 0 where
  pub more : List Token
  pub whole : ys ≡ xs ++ more

-- what may still become a key stands behind so many tokens
abbrev pub IsBehind : ℕ → Option Key → Type 0
IsBehind n None = Unit {0}
IsBehind n (Some k) = n ≤ k.number

-- and so does all of it
abbrev pub AreBehind : ℕ → List (Option Key) → Type 0
AreBehind n [] = Unit {0}
AreBehind n (k ∷ ks) = IsBehind n k × AreBehind n ks

-- These tokens are settled in a text: the model has them first at some state, and no key may come before one of them any more. So it has them
-- first at each later state (`settled_tokens_stay`).
pub record IsReached (a : List ℕ) (given : List Token) : Type 0 where
  pub last : ScannerState
  pub run : Reaches (start a) last
  pub begins : BeginsWith given last.held.tokens
  pub behind : last.held.ended ≡ false → AreBehind (length given) last.held.keys

-- These are all tokens that are settled where a text is refused: the model has them first there, no key may come before one of them, and one may
-- come before the next, if there is a next.
pub record AreSettled (a : List ℕ) (given : List Token) : Type 0 where
  pub fault : Fault
  pub refused : IsRefused a fault
  pub begins : BeginsWith given refused.last.held.tokens
  pub behind : AreBehind (length given) refused.last.held.keys
  pub all : list_any (comes_before (length given)) refused.last.held.keys ≡ false → refused.last.held.tokens ≡ given

-- no token waits that could be handed out
abbrev pub IsShort : {T : Type 0} → Fetcher T → Type 0
IsShort s = 0 < waiting s.tokens → list_any is_front s.keys ≡ true

-- these are all tokens of a text, and the run that met them ended at a position
pub record HasEnded (a : List ℕ) (ts : List Token) (p : Position) (started : Bool) : Type 0 where
  pub whole : HasTokens a ts
  pub position : whole.end.held.position ≡ p
  pub began : whole.end.held.started ≡ started

pub record FollowsIn {T : Type 0} (a : List ℕ) (s : Fetcher T) : Type 0 where
  -- where no fault is kept: the model reaches what is held, and has all tokens once the stream's end is among them
  pub run : s.kept ≡ None → s.tokens.ended ≡ false → Reaches (start a) (state (drop s.window.at a) s)
  pub all : s.kept ≡ None → s.tokens.ended ≡ true → HasEnded a s.tokens.all (position_of s.window) s.started
  -- the stream's end comes where no character is left to take
  pub done : s.kept ≡ None → s.tokens.ended ≡ true → s.window.done ≡ true
  -- what was handed out
  pub reached : IsReached a (handed s.tokens)
  pub begins : (ts : List Token) → HasTokens a ts → BeginsWith (handed s.tokens) ts
  pub whole : s.tokens.over ≡ true → HasTokens a (handed s.tokens)
  pub refused : IfSome s.kept (λ _. s.fault ≢ OutOfMemory → IsRefused a s.fault)
  -- unless the fault came early, all that was settled before it was handed out
  pub settled : IfSome s.kept (λ _. s.early ≡ false → s.fault ≢ OutOfMemory → AreSettled a (handed s.tokens))
  -- until the stream's end was handed out it is none of what was
  pub open_end : s.tokens.over ≡ false → has_end (handed s.tokens) ≡ false
  -- where more tokens waited than there was room for, they wait in the text
  pub backlog : IfSome s.backlog (λ b. Waits a b.mark b.tokens)

-- whatever the text is
abbrev pub Follows : {T : Type 0} → Fetcher T → Type 0
Follows s = (a : List ℕ) → Possible s.window a → FollowsIn a s
