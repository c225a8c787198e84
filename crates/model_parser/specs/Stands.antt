-- A parser stands where what it still awaits is what may come after the tokens that it took.
use Rattle.std.specs.Prelude.{◌≡◌, List, [], ◌∷◌, ◌++◌, true, false, Option, Some, None}
use Rattle.defs_token.specs.Token.{Tok}
use Rattle.defs_event.specs.Raw.{Raw}
use Rattle.defs_event.specs.Stream.{StreamSays}
use Rattle.model_parser.specs.declared.state.State.{State}
use Rattle.model_parser.specs.Goal.{Goal}
use Rattle.defs_event.specs.Place.{open_after, other_next, next_after}
use Rattle.model_parser.specs.Place.{open_at, next_at, top, is_node, is_after, is_directive_next, is_past_directives, IsNoDirective}
use Rattle.model_parser.specs.Rest.{Awaits, IsNested, IsFor}

-- the next token, where it was looked at
abbrev pub IsNext : Option Tok → List Tok → Type 0
IsNext None ts = Unit {0}
IsNext (Some x) [] = ⊥
IsNext (Some x) (y ∷ ts) = y ≡ x

-- Some stream goes on with the token that was looked at.
abbrev pub GoesOn : List Tok → Option Tok → Type 0
GoesOn taken None = ⊥
GoesOn taken (Some t) = (ts : List Tok) × (es : List Raw) × StreamSays (taken ++ t ∷ ts) es

-- A node is read next just where the tokens leave one to come; or no node is read any more, since the token that was looked at goes
-- on without one, or is a directive where a document ends.
pub data IsSettled (g : Goal) (ss : List State) (taken : List Tok) (peeked : Option Tok) : Type 0 where
  as_tokens : next_after other_next taken ≡ next_at g ss → IsSettled g ss taken peeked
  goes_on : is_node (next_at g ss) ≡ false → GoesOn taken peeked → IsSettled g ss taken peeked
  at_directive : is_after (top g ss) ≡ true → is_directive_next peeked ≡ true → IsSettled g ss taken peeked

-- Whatever the goal and the stack still take completes the tokens taken to a stream, with its events; and whatever
-- stream begins with the tokens taken, and goes on with the token looked at, goes on in the goal and the stack.
pub record IsOnTrack (g : Goal) (ss : List State) (taken : List Tok) (peeked : Option Tok) (given : List Raw) : Type 0 where
  pub nested : IsNested ss
  pub fits : IsFor g ss
  pub opened : open_after [] taken ≡ open_at g ss
  pub settled : IsSettled g ss taken peeked
  pub past : is_past_directives g ss ≡ true → IsNoDirective peeked
  pub sound : (ts : List Tok) (es : List Raw) → Awaits g ss ts es → StreamSays (taken ++ ts) (given ++ es)
  pub exact : (ts : List Tok) (es : List Raw) → IsNext peeked ts → StreamSays (taken ++ ts) es → (fs : List Raw) × (es ≡ given ++ fs) × Awaits g ss ts fs
