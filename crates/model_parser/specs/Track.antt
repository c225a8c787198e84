-- Where a parser by a table stands: what is still to be read, after the tokens that it took and the events that it gave.
use Rattle.std.specs.Prelude.{◌≡◌, ◌⊎◌, Bool, true, false, List, [], ◌∷◌, ◌++◌, Option, Some, None}
use Rattle.defs_token.specs.Token.{Tok}
use Rattle.defs_event.specs.Raw.{Raw}
use Rattle.defs_event.specs.Table.{Table, Work, Derives}
use Rattle.defs_event.specs.Grammar.{Held, Goal, grammar}
use Rattle.defs_event.specs.Stream.{whole_stream}

-- The tokens may begin so: where the next one was looked at, with it, or with one that ends a goal, if such are meant too.
abbrev pub MayBegin : {T : Type 0} → (ends : T → Bool) → (too : Bool) → Option T → List T → Type 0
MayBegin ends too None ts = Unit {0}
MayBegin ends too (Some t) [] = ⊥
MayBegin ends true (Some t) (u ∷ ts) = (u ≡ t) ⊎ (ends u ≡ true)
MayBegin ends false (Some t) (u ∷ ts) = u ≡ t

-- the next token, where it was looked at
abbrev pub IsNext : {T : Type 0} → Option T → List T → Type 0
IsNext None ts = Unit {0}
IsNext (Some t) [] = ⊥
IsNext (Some t) (u ∷ ts) = u ≡ t

-- The work goes on with the next token, which was looked at.
abbrev pub GoesOn : {G T E H : Type 0} → Table G T E H → List (Work G E H) → Option T → Type 0
GoesOn a w None = ⊥
GoesOn {T = T} {E = E} a w (Some t) = (ts : List T) × (es : List E) × Derives a w (t ∷ ts) es

-- What is read from here completes the tokens taken, and what completes them is read from here.
pub record IsOnTrack {G T E H : Type 0} (a : Table G T E H) (ends : T → Bool) (start w : List (Work G E H)) (taken : List T) (next : Option T) (given : List E) : Type 0 where
  pub too : Bool
  pub sound : (ts : List T) (es : List E) → MayBegin ends too next ts → Derives a w ts es → Derives a start (taken ++ ts) (given ++ es)
  pub exact : (ts : List T) (es : List E) → IsNext next ts → Derives a start (taken ++ ts) es → (fs : List E) × (es ≡ given ++ fs) × Derives a w ts fs
  pub safe : too ≡ false → GoesOn a w next

-- ---- the token grammar

-- Tokens that end a goal, or begin a stream or a document: no row that leaves a token to another goal is for one of them alone.
abbrev pub ends_goal : Tok → Bool
ends_goal Tok.stream_start = true
ends_goal Tok.stream_end = true
ends_goal Tok.document_start = true
ends_goal Tok.block_end = true
ends_goal Tok.flow_sequence_end = true
ends_goal Tok.flow_mapping_end = true
ends_goal _ = false

abbrev pub OnTrack : List (Work Goal Raw Held) → (taken : List Tok) → (next : Option Tok) → (given : List Raw) → Type 0
OnTrack w taken next given = IsOnTrack grammar ends_goal whole_stream w taken next given
