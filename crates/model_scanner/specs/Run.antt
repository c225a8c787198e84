-- Runs of the scanner from the start of a text.
use Rattle.std.specs.Prelude.{◌≡◌, ℕ, zero, suc, List, [], true, false, if◌then◌else◌, Result, Ok, Err}
use Rattle.defs_token.specs.Token.{Token}
use Rattle.yaml_tokens.specs.declared.problem.Fault.{Fault}
use Rattle.model_scanner.specs.State.{Held, ScannerState, ◌>>=◌}
use Rattle.model_scanner.specs.Fetch.{fetch}

abbrev pub nothing_held : Held
nothing_held = record {
  position = record { index = 0; line = 1; col = 0 };
  tokens = [];
  keys = [];
  indents = [];
  indent = 0;
  flow = [];
  key_allowed = true;
  leading = true;
  adjacent_value_at = 0;
  started = false;
  ended = false;
}

-- the scanner before a text
abbrev pub start : List ℕ → ScannerState
start a = record { rest = a; held = nothing_held }

-- from one state to another by fetches, none after the stream's end
pub data Reaches : ScannerState → ScannerState → Type 0 where
  here : {t : ScannerState} → Reaches t t
  there : {t u v : ScannerState} → t.held.ended ≡ false → fetch t ≡ Ok u → Reaches u v → Reaches t v

-- these are all tokens of a text
pub record HasTokens (a : List ℕ) (ts : List Token) : Type 0 where
  pub end : ScannerState
  pub run : Reaches (start a) end
  pub ended : end.held.ended ≡ true
  pub tokens : end.held.tokens ≡ ts

-- a text is refused with a fault
pub record IsRefused (a : List ℕ) (f : Fault) : Type 0 where
  pub last : ScannerState
  pub run : Reaches (start a) last
  pub going : last.held.ended ≡ false
  pub refused : fetch last ≡ Err f

-- the tokens of a text that needs at most so many fetches
abbrev pub scan_from : ℕ → ScannerState → Result (List Token) Fault
scan_from zero t = Ok t.held.tokens
scan_from (suc n) t = (if t.held.ended then Ok t.held.tokens else fetch t >>= λ u. scan_from n u)

abbrev pub scan : ℕ → List ℕ → Result (List Token) Fault
scan n a = scan_from n (start a)
