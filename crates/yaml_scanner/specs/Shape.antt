-- The code's scanner as the model's state.
use Rattle.std.specs.Prelude.{ℕ, List}
use Rattle.yaml_chars.specs.WindowView.{position_of}
use Rattle.model_scanner.specs.State.{Held, ScannerState}
use Rattle.yaml_scanner.specs.declared.fetcher.Fetcher.{Fetcher}
use Rattle.yaml_scanner.specs.ImplicitKeys.{seen}

abbrev pub held : {T : Type 0} → Fetcher T → Held
held s = record {
  position = position_of s.window;
  tokens = s.tokens.all;
  keys = seen s.tokens.given s.keys;
  indents = s.levels.indents;
  indent = s.levels.indent;
  flow = s.flow;
  key_allowed = s.key_allowed;
  leading = s.leading;
  adjacent_value_at = s.adjacent_value_at;
  started = s.started;
  ended = s.tokens.ended;
}

abbrev pub state : {T : Type 0} → List ℕ → Fetcher T → ScannerState
state a s = record { rest = a; held = held s }
