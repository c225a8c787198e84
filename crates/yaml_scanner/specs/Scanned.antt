-- What clauses see of a scanner.
use Rattle.std.specs.Prelude.{◌≡◌, ℕ, ◌+◌, ◌<◌, List, [], ◌∷◌, ◌++◌, length, take, drop, Bool, true, false, Option, Some, None, IfSome, option_map, codes}
use Rattle.defs_text.specs.Position.{Position, first_position, position_after}
use Rattle.defs_text.specs.Text.{has_no_nul}
use Rattle.yaml_chars.specs.WindowView.{position_of}
use Rattle.defs_token.specs.Token.{Token}
use Rattle.yaml_tokens.specs.ErrorReport.{ErrorReport}
use Rattle.yaml_tokens.specs.Problem.{fault_of}
use Rattle.yaml_tokens.specs.declared.problem.Fault as code
use Rattle.defs_token.specs.Cut.{IsCutOfBeginning}
use Rattle.defs_token.specs.Row.{IsRead}
use Rattle.model_scanner.specs.Document.{next_line}
use Rattle.model_scanner.specs.Run.{IsRefused}
use Rattle.proof_scanner.specs.Faults.{IsThere, is_shown}
use Rattle.proof_scanner.specs.Positions.{IsPositionIn}
use Rattle.yaml_scanner.specs.declared.fetcher.Backlog.{Backlog}
use Rattle.yaml_scanner.specs.declared.fetcher.Fetcher.{Fetcher}
use Rattle.yaml_scanner.specs.Follows.{BeginsWith, IsReached, AreSettled}
use Rattle.yaml_scanner.specs.Rowless.{HasNoRow}
use Rattle.yaml_scanner.specs.Waits.{Waits}
use Rattle.yaml_scanner.specs.Tokens.{handed, waiting, is_end}
use Rattle.yaml_scanner.specs.Work.{work}

pub record Scanned : Type 0 where
  -- the tokens handed out, and how many were fetched and wait
  pub given : List Token
  pub waiting : ℕ
  -- the fault that is kept, and whether tokens may wait beside it that could have been handed out before
  pub fault : Option ErrorReport
  pub early : Bool
  -- whether the stream's start was fetched, and its end
  pub started : Bool
  pub stopped : Bool
  -- whether the stream's end was handed out
  pub ended : Bool
  pub position : Position
  -- a bound on the tokens that may still be handed out
  pub left : ℕ
  -- the characters taken from the iterator, and whether they are all
  pub taken : List ℕ
  pub done : Bool
  -- where more tokens waited than there was room for
  pub backlog : Option Backlog

abbrev pub inside : {T : Type 0} → Fetcher T → Scanned
inside s = record {
  given = handed s.tokens;
  waiting = waiting s.tokens;
  fault = option_map (fault_of s.fault) s.kept;
  early = s.early;
  started = s.started;
  stopped = s.tokens.ended;
  ended = s.tokens.over;
  position = position_of s.window;
  left = work s;
  taken = s.window.taken;
  done = s.window.done;
  backlog = s.backlog;
}

-- What clauses see of a scanner: the iterator as it was given, and what was read and handed out so far.
pub record Scan (T : Type 0) : Type 0 where
  pub start : T
  pub so_far : Scanned

abbrev pub scanned : {T : Type 0} → Scan T → Scanned
scanned s = s.so_far

abbrev pub scan_of : {T : Type 0} → Fetcher T → Scan T
scan_of s = record { start = s.window.start; so_far = inside s }

-- a may be the whole text, which ends before a NUL
pub record MayBe (s : Scanned) (a : List ℕ) : Type 0 where
  pub no_nul : has_no_nul a ≡ true
  pub begins : take (length s.taken) a ≡ s.taken
  pub ends : s.done ≡ true → a ≡ s.taken

-- a fault is the refusal of a text
pub record IsRefusal (a : List ℕ) (f : ErrorReport) : Type 0 where
  pub fault : code.Fault
  pub position : Position
  pub refused : IsRefused a fault
  pub shown : f ≡ fault_of fault position
  -- a fault that stands in a text by itself stands in this one: a bad escape, the end or a document marker inside a quoted scalar, a flow collection too deep, a dash in flow
  pub stands : is_shown fault ≡ true → IsThere a fault
  -- the definitions of rows alone say that the text has none, and where it is stuck
  pub rowless : HasNoRow a f

-- What was handed out, and the fault, where a is the text.
pub record ScansIn (a : List ℕ) (s : Scanned) : Type 0 where
  pub no_nul : has_no_nul a ≡ true
  -- the tokens are settled in the text
  pub reached : IsReached a s.given
  -- where the text is read as tokens, they are a beginning of these
  pub begins : (ts : List Token) → IsRead a ts → BeginsWith s.given ts
  -- once the stream's end was handed out, the text is read as these tokens
  pub whole : s.ended ≡ true → IsRead a s.given
  -- before that they are a cut of a beginning of the text
  pub begun : s.ended ≡ false → IsCutOfBeginning s.given a
  -- where no fault is kept, the position is that after so many characters; after the stream's end, it is where a line begins after the text
  pub position : s.fault ≡ None → s.stopped ≡ false → IsPositionIn a (drop s.position.index a) s.position
  pub end : s.fault ≡ None → s.stopped ≡ true → s.position ≡ next_line (position_after first_position a [])
  -- where no fault is kept, the stream's start was fetched just where some token was
  pub none : s.fault ≡ None → s.started ≡ false → (s.given ≡ []) × (s.waiting ≡ 0)
  pub some : s.fault ≡ None → s.started ≡ true → 0 < length s.given + s.waiting
  -- a text with a row has no fault but out of memory
  pub sound : (ts : List Token) → IsRead a ts → IfSome s.fault (λ f. f.memory ≡ true)
  -- out of memory has its text
  pub wants : IfSome s.fault (λ f. f.memory ≡ true → f.text ≡ codes "out of memory")
  -- a fault other than out of memory is the text's refusal, of which there is one
  pub refused : IfSome s.fault (λ f. f.memory ≡ false → IsRefusal a f)
  pub same : (e : code.Fault) → IsRefused a e → IfSome s.fault (λ f. f.memory ≡ false → (p : Position) × (f ≡ fault_of e p))
  -- unless it came early, all tokens that are settled before it were handed out, and none else
  pub settled : s.early ≡ false → IfSome s.fault (λ f. f.memory ≡ false → AreSettled a s.given)
  -- tokens that waited without room wait in the text
  pub waits : IfSome s.backlog (λ b. Waits a b.mark b.tokens)

-- What was handed out, and the fault, whatever the text is.
pub record Scans (s : Scanned) : Type 0 where
  pub scans : (a : List ℕ) → MayBe s a → ScansIn a s
  -- once the stream's end was fetched, the characters taken are the whole text
  pub done : s.fault ≡ None → s.stopped ≡ true → s.done ≡ true

-- The same of a fault, whatever the text is: unless memory was refused, it has no row.
abbrev pub LeavesNoRow : Scanned → ErrorReport → Type 0
LeavesNoRow s f = f.memory ≡ false → (a : List ℕ) → MayBe s a → HasNoRow a f

-- a token more is handed out
pub record HandsOut (old : Scanned) (t : Token) (new : Scanned) : Type 0 where
  pub going : (old.ended ≡ false) × (old.fault ≡ None)
  pub given : new.given ≡ old.given ++ t ∷ []
  pub fault : new.fault ≡ None
  pub ended : new.ended ≡ is_end t.tok
  pub left : new.left < old.left

-- two tokens more are handed out, one after the other
pub record HandsBoth (old : Scanned) (t u : Token) (new : Scanned) : Type 0 where
  pub between : Scanned
  pub first : HandsOut old t between
  pub second : HandsOut between u new

-- the end was handed out before, and nothing changes
pub record HandsNothing (old new : Scanned) : Type 0 where
  pub going : (old.ended ≡ true) × (old.fault ≡ None)
  pub same : new ≡ old

-- a fault is kept and answered, now and from now on
pub record Refuses (old : Scanned) (f : ErrorReport) (new : Scanned) : Type 0 where
  pub given : new.given ≡ old.given
  pub ended : new.ended ≡ old.ended
  pub fault : new.fault ≡ Some f
