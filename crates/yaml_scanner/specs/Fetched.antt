-- What one fetch of the code does: one of the model, or two of which the first does not end the stream.
use Rattle.std.specs.Prelude.{◌≡◌, ◌-◌, ◌<◌, List, ℕ, true, false, Result, Ok, None, OnOk, OnErr}
use Rattle.defs_text.specs.Position.{Position}
use Rattle.defs_token.specs.Token.{Tok, Style}
use Rattle.yaml_chars.specs.WindowView.{Reads}
use Rattle.yaml_tokens.specs.declared.problem.Fault.{Fault}
use Rattle.model_scanner.specs.State.{Held, ScannerState, ◌>>=◌, try_held, push}
use Rattle.model_scanner.specs.Keys.{stale}
use Rattle.model_scanner.specs.Indents.{unroll_non_block_indents, roll_indent, roll_one_col_indent}
use Rattle.model_scanner.specs.Fetch.{fetch, fetch_here}
use Rattle.yaml_scanner.specs.declared.fetcher.Fetcher.{Fetcher}
use Rattle.yaml_scanner.specs.Runs.{Comes}
use Rattle.yaml_scanner.specs.Shape.{state}
use Rattle.yaml_scanner.specs.Work.{Fetches, work}

-- a step, and then a fetch
pub record RunsTwice (f : ScannerState → Result ScannerState Fault) (t u : ScannerState) : Type 0 where
  pub between : ScannerState
  pub first : f t ≡ Ok between
  pub going : between.held.ended ≡ false
  pub second : fetch between ≡ Ok u

-- two fetches
abbrev pub FetchesTwice : ScannerState → ScannerState → Type 0
FetchesTwice t u = RunsTwice fetch t u

-- Whatever the text is, the model's step does to the old state what the call did, or the step and a fetch do.
pub data Fetched {T X E : Type 0} (f : ScannerState → Result ScannerState Fault) (old : Fetcher T) (result : Result X E) (new : Fetcher T) : Type 0 where
  once : Reads old.window new.window (λ a b. Comes (f (state a old)) result (state b new) new.fault) → Fetched f old result new
  twice : OnErr result ⊥ → Reads old.window new.window (λ a b. RunsTwice f (state a old) (state b new)) → Fetched f old result new

-- A call that fetches: the stream's end comes where no character is left, and the bound falls.
pub record Gets {T X E : Type 0} (f : ScannerState → Result ScannerState Fault) (old : Fetcher T) (result : Result X E) (new : Fetcher T) : Type 0 where
  pub does : Fetched f old result new
  pub done : OnOk result (new.tokens.ended ≡ true → new.window.done ≡ true)
  pub less : OnOk result (work new < work old)
  pub run : Fetches old new

-- the last steps of a fetch: the token that stands here, and then the keys that are given up
unfoldable pub fetch_rest : ScannerState → Result ScannerState Fault
fetch_rest t = fetch_here t >>= λ u. try_held stale u

-- the position before another on its line
abbrev pub before : Position → Position
before p = record { index = p.index - 1; line = p.line; col = p.col - 1 }

-- What is held after the `:` of a key that began at a position: the `:` stands before the present one.
abbrev pub with_key : Position → List ℕ → Held → Held
with_key p key s =
    let u = roll_one_col_indent (roll_indent p.col None Tok.block_mapping_start (before s.position) (unroll_non_block_indents s)) in
    push (before s.position) Tok.value (push p (Tok.scalar Style.plain key) (push p Tok.key (record u { key_allowed = false; leading = false })))

-- what is held after a scalar that began at a position and the break after it
abbrev pub with_line : Position → List ℕ → Held → Held
with_line p text s = push p (Tok.scalar Style.plain text) (record (unroll_non_block_indents s) { leading = true })
