-- What the scanner holds: where it stands, and what it knows of the text before that position.
use Rattle.std.specs.Prelude.{ℕ, List, [], ◌∷◌, ◌++◌, Bool, false, not, Option, Some, None, Result, Ok, Err}
use Rattle.std.specs.List.{insert}
use Rattle.defs_text.specs.Position.{Position}
use Rattle.defs_text.specs.Text.{is_empty}
use Rattle.defs_token.specs.Token.{Tok, Token}
use Rattle.yaml_tokens.specs.declared.problem.Fault.{Fault}
use Rattle.model_scanner.specs.declared.level.Indent.{Indent}
use Rattle.model_scanner.specs.declared.level.FlowLevel.{FlowLevel}
use Rattle.model_scanner.specs.Machine.{Read, past}

-- a token that may turn out to be a key: whether it must be one, how many tokens stand before it, and its position
pub record Key : Type 0 where
  pub required : Bool
  pub number : ℕ
  pub position : Position

-- What the scanner knows of the text before its position.
pub record Held : Type 0 where
  pub position : Position
  -- all tokens so far, those handed out among them
  pub tokens : List Token
  -- what may still turn out to be a implicit key: one for each flow level and one outside flow, the innermost first
  pub keys : List (Option Key)
  -- the levels of indentation, the innermost first
  pub indents : List Indent
  -- the column of the innermost level, counted from 1; 0 outside all collections
  pub indent : ℕ
  -- the flow levels, the innermost first
  pub flow : List FlowLevel
  -- whether a key without `?` may begin here
  pub key_allowed : Bool
  -- whether only blanks stand before this position on its line
  pub leading : Bool
  -- where a `:` may stand right after a quoted scalar or a flow collection
  pub adjacent_value_at : ℕ
  -- whether the token of the stream's start was met
  pub started : Bool
  -- whether that of its end was
  pub ended : Bool

-- the text that is left, and what the scanner holds
pub record ScannerState : Type 0 where
  pub rest : List ℕ
  pub held : Held

-- one step after another
infixl 10 ◌>>=◌
abbrev pub ◌>>=◌ : {A B : Type 0} → Result A Fault → (A → Result B Fault) → Result B Fault
(Ok x) >>= f = f x
(Err e) >>= f = Err e

-- the next character, or NUL at the end
abbrev pub peek : List ℕ → ℕ
peek [] = 0
peek (c ∷ a) = c

-- what stands after the next character
abbrev pub after : List ℕ → List ℕ
after [] = []
after (c ∷ a) = a

abbrev pub pop : {A : Type 0} → List A → List A
pop [] = []
pop (x ∷ xs) = xs

abbrev pub top : {A : Type 0} → List A → Option A
top [] = None
top (x ∷ xs) = Some x

-- with another one on top
abbrev pub with_top : {A : Type 0} → A → List A → List A
with_top y [] = []
with_top y (x ∷ xs) = y ∷ xs

abbrev pub token : Position → Tok → Token
token p t = record { position = p; tok = t }

-- a token more
abbrev pub push : Position → Tok → Held → Held
push p t s = record s { tokens = s.tokens ++ token p t ∷ [] }

-- a token that goes in before those of a number
abbrev pub put : ℕ → Position → Tok → Held → Held
put n p t s = record s { tokens = insert s.tokens n (token p t) }

abbrev pub in_flow : Held → Bool
in_flow s = not (is_empty s.flow)

-- a step that looks at no character
abbrev pub on_held : (Held → Held) → ScannerState → ScannerState
on_held f t = record t { held = f t.held }

abbrev pub with_held : ScannerState → Result Held Fault → Result ScannerState Fault
with_held t (Ok s) = Ok (record t { held = s })
with_held t (Err f) = Err f

-- a step that looks at no character, and may refuse
abbrev pub try_held : (Held → Result Held Fault) → ScannerState → Result ScannerState Fault
try_held f t = with_held t (f t.held)

-- at the position where a lexing function ended
abbrev pub go_on : {A : Type 0} → Read A → Held → ScannerState
go_on r s = record { rest = r.rest; held = record s { position = r.position } }

-- after what a lexing function read
abbrev pub lexed : {A : Type 0} → Result (Read A) Fault → Held → (A → ScannerState → Result ScannerState Fault) → Result ScannerState Fault
lexed (Ok r) s go = go r.value (go_on r s)
lexed (Err f) s go = Err f

-- one character on in a line
abbrev pub moved : Held → Held
moved s = record s { position = past s.position }

-- after an indicator
abbrev pub skip_indicator : ScannerState → ScannerState
skip_indicator t = record { rest = after t.rest; held = record t.held { position = past t.held.position; leading = false } }
