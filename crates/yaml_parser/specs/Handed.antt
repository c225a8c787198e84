-- The tokens of a parser, and those that its scanner handed out.
use Rattle.std.specs.Prelude.{◌≡◌, List, [], ◌∷◌, ◌++◌, Bool, false, Option, Some, None, IsSome, IfSome, option_map}
use Rattle.defs_text.specs.Position.{Position}
use Rattle.defs_token.specs.Token as defs
use Rattle.defs_token.specs.Token.{Tok}
use Rattle.yaml_tokens.specs.declared.token.Token.{Token}
use Rattle.yaml_tokens.specs.Shown.{shown, all_shown, tok_of}
use Rattle.yaml_scanner.specs.Scanned.{Scanned, scanned}
use Rattle.yaml_scanner.specs.Tokens.{is_end}
use Rattle.defs_token.specs.Toks.{toks}
use Rattle.yaml_parser.specs.declared.tokens.Tokens.{Tokens}

abbrev pub shown_list : Option Token → List defs.Token
shown_list None = []
shown_list (Some t) = shown t ∷ []

abbrev pub taken_toks : {T : Type 0} → Tokens T → List Tok
taken_toks p = toks (all_shown p.taken.items)

abbrev pub peeked_tok : {T : Type 0} → Tokens T → Option Tok
peeked_tok p = option_map (λ (t : Token). tok_of t.1) p.peeked

-- where the last of these tokens stands, or what is before them
abbrev pub behind : Option Position → List defs.Token → Option Position
behind b [] = b
behind b (t ∷ ts) = behind (Some t.position) ts

-- where the token stands that was taken last
abbrev pub last_position : {T : Type 0} → Tokens T → Option Position
last_position p = behind None (all_shown p.taken.items)

-- The token that was taken last stands there.
abbrev pub IsRightAfter : {T : Type 0} → Position → Tokens T → Type 0
IsRightAfter m p = last_position p ≡ Some m

-- The first of these tokens stands where the one does that was looked at, if one was.
abbrev pub BeginAt : Option Token → List defs.Token → Type 0
BeginAt None ts = Unit {0}
BeginAt (Some t) [] = ⊥
BeginAt (Some t) (k ∷ ts) = k.position ≡ t.0

-- The scanner handed out what was taken, and what was looked at.
abbrev pub IsHanded : {T : Type 0} → Tokens T → Type 0
IsHanded p = (scanned p.scanner).given ≡ all_shown p.taken.items ++ shown_list p.peeked

abbrev pub ends : Option Token → Bool
ends None = false
ends (Some t) = is_end (tok_of t.1)

-- The scanner keeps no fault, and the stream's end was handed out only if it was looked at and waits.
abbrev pub IsAwake : {T : Type 0} → Tokens T → Type 0
IsAwake p = ((scanned p.scanner).ended ≡ ends p.peeked) × ((scanned p.scanner).fault ≡ None)

-- The scanner keeps a fault. Unless memory was refused, all tokens that are settled before it were handed out.
abbrev pub IsStopped : Scanned → Type 0
IsStopped s = IsSome s.fault × IfSome s.fault (λ f. f.memory ≡ false → s.early ≡ false)
