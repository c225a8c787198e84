-- Characters of a URI, escaped ones too (YAML 1.2, section 5.6; RFC 3629 for UTF-8): the exact model.
use Rattle.std.specs.Prelude.{ℕ, zero, suc, ◌+◌, ◌-◌, ◌*◌, Bool, List, [], ◌∷◌, ◌++◌, ◌==◌, ◌&&◌, nat_lt, nat_le, if◌then◌else◌, Result, Ok, Err}
use Rattle.std.specs.Char.{digit_value}
use Rattle.defs_text.specs.Position.{Position}
use Rattle.yaml_chars.specs.Class.{is_hex}
use Rattle.yaml_tokens.specs.declared.problem.Fault.{Fault}
use Rattle.yaml_tokens.specs.declared.problem.Fault.TheVariants.{At}
use Rattle.yaml_tokens.specs.declared.problem.Problem.TheVariants as problem
use Rattle.model_scanner.specs.Machine.{Turn, stop, fail, on, Stop, run, Read, and_then, past}
use Rattle.model_scanner.specs.Quoted.{is_scalar}

-- which octet of a character comes: the first, or one after which so many more follow, with the bits so far and the least code of this length
pub data Octet : Type 0 where
  lead : Octet
  trail : (more code least : ℕ) → Octet

-- what stands next: a character, an octet's `%`, or its first or second digit
pub data Mode : Type 0 where
  plain : Mode
  percent : Octet → Mode
  high : Octet → Mode
  low : Octet → (value : ℕ) → Mode

pub record UriState : Type 0 where
  pub mode : Mode
  pub position : Position
  pub text : List ℕ

-- where so many octets are left
abbrev pub at_trail : Position → (left code least : ℕ) → Position → List ℕ → Result UriState Fault
at_trail start zero code least p t = (if nat_le least code && is_scalar code then Ok (record { mode = plain; position = p; text = t ++ code ∷ [] }) else Err (At problem.TagCodepoint start))
at_trail start (suc more) code least p t = Ok (record { mode = percent (trail more code least); position = p; text = t })

-- after an octet
abbrev pub at_octet : Position → Octet → ℕ → Position → List ℕ → Result UriState Fault
at_octet start lead n p t =
    (if nat_lt n 128 then at_trail start 0 n 0 p t else
    (if nat_le 192 n && nat_lt n 224 then at_trail start 1 (n - 192) 128 p t else
    (if nat_le 224 n && nat_lt n 240 then at_trail start 2 (n - 224) 2048 p t else
    (if nat_le 240 n && nat_lt n 248 then at_trail start 3 (n - 240) 65536 p t else Err (At problem.TagLeadingOctet start)))))
at_octet start (trail more code least) n p t = (if nat_le 128 n && nat_lt n 192 then at_trail start more (code * 64 + (n - 128)) least p t else Err (At problem.TagTrailingOctet start))

abbrev pub went_on : Result UriState Fault → Turn UriState Fault
went_on (Ok s) = on s
went_on (Err f) = fail f

abbrev pub turn_in : (ℕ → Bool) → Position → Mode → UriState → ℕ → List ℕ → Turn UriState Fault
turn_in test start plain s c a =
    (if test c then (if c == 37 then on (record { mode = high lead; position = past s.position; text = s.text }) else on (record { mode = plain; position = past s.position; text = s.text ++ c ∷ [] })) else stop s)
turn_in test start (percent o) s c a = (if c == 37 then on (record { mode = high o; position = past s.position; text = s.text }) else fail (At problem.TagOctet start))
turn_in test start (high o) s c a = (if is_hex c then on (record { mode = low o (digit_value c); position = past s.position; text = s.text }) else fail (At problem.TagOctet start))
turn_in test start (low o value) s c a = (if is_hex c then went_on (at_octet start o (value * 16 + digit_value c) (past s.position) s.text) else fail (At problem.TagOctet start))

abbrev pub turn : (ℕ → Bool) → Position → UriState → ℕ → List ℕ → Turn UriState Fault
turn test start s c a = turn_in test start s.mode s c a

-- no text ends inside an escaped character
abbrev pub end_in : Position → Mode → List ℕ → Position → List ℕ → Result (Read (List ℕ)) Fault
end_in start plain rest position text = Ok (record { rest = rest; position = position; value = text })
end_in start _ rest position text = Err (At problem.TagOctet start)

abbrev pub ended : Position → Result (Stop UriState) Fault → Result (Read (List ℕ)) Fault
ended start (Ok t) = end_in start t.state.mode t.rest t.state.position t.state.text
ended start (Err f) = Err f

-- the scan from a state on, of characters of a kind
abbrev pub uri_from : (ℕ → Bool) → Position → List ℕ → UriState → Result (Read (List ℕ)) Fault
uri_from test start a s = ended start (run (turn test start) a s)

-- the characters of a kind after a text
abbrev pub uri : (ℕ → Bool) → Position → List ℕ → Position → List ℕ → Result (Read (List ℕ)) Fault
uri test start a p t = uri_from test start a (record { mode = plain; position = p; text = t })

-- the scan after an octet
abbrev pub octet_from : (ℕ → Bool) → Position → Octet → ℕ → List ℕ → Position → List ℕ → Result (Read (List ℕ)) Fault
octet_from test start o n a p t = and_then (at_octet start o n p t) (λ s. uri_from test start a s)

-- the scan where so many octets are left
abbrev pub trails_from : (ℕ → Bool) → Position → (left code least : ℕ) → List ℕ → Position → List ℕ → Result (Read (List ℕ)) Fault
trails_from test start left code least a p t = and_then (at_trail start left code least p t) (λ s. uri_from test start a s)
