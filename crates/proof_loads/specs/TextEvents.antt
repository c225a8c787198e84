-- Any text against what a parser that is at its start pushes of it.
use Rattle.std.specs.Prelude.{◌≡◌, ℕ, Bool, List, [], ◌∷◌, ◌++◌, Option, Result, Ok, Err}
use Rattle.defs_text.specs.Position.{Position}
use Rattle.defs_token.specs.Token.{Token}
use Rattle.yaml_tokens.specs.ErrorReport.{ErrorReport}
use Rattle.defs_event.specs.Event.{Ev}
use Rattle.defs_token.specs.Toks.{toks}
use Rattle.defs_event.specs.Stream.{to_next, HasPlacedTo, BeginsPlaced, Foretells, NoneBegins, events_of}
use Rattle.defs_token.specs.Row.{IsRead}
use Rattle.yaml_scanner.specs.Follows as scan
use Rattle.yaml_scanner.specs.Follows.{IsReached, AreSettled}
use Rattle.yaml_scanner.specs.Scanned.{IsRefusal}
use Rattle.yaml_parser.specs.Blames.{Blames, WantsMemory}
use Rattle.yaml_parser.specs.Follows.{listed}
use Rattle.yaml_parser.specs.Loads.{Receives}
use Rattle.proof_loads.specs.PlacedEvents.{HasEvents}

-- These are the text's first tokens: they are settled, and what the text is read as begins with them.
pub record AreFirst (text : List ℕ) (given : List Token) : Type 0 where
  pub reached : IsReached text given
  pub begins : (ts : List Token) → IsRead text ts → scan.BeginsWith given ts

-- The text's events begin with these, as far as its first tokens tell: a stream begins with these tokens but for the last, and with
-- these events at their positions, and each stream that begins with these tokens begins with these events.
pub record BeginsEvents (keep_tags : Bool) (text : List ℕ) (events : List (Ev × Position)) : Type 0 where
  pub before : List Token
  pub last : Option Token
  pub first : AreFirst text (before ++ listed last)
  pub begins : BeginsPlaced keep_tags before events
  pub only : Foretells keep_tags (toks (before ++ listed last)) (events_of events)

-- Why a parser has this fault: memory was refused; or the scanner refuses the text so, and a stream begins with all tokens that are settled before,
-- and with these events, which are those that the tokens say; or a stream begins with the text's first tokens, and none with these and the next, which
-- the fault blames.
pub data IsFaultOf (keep_tags : Bool) (text : List ℕ) (f : ErrorReport) : Type 0 where
  wants_memory : WantsMemory f → IsFaultOf keep_tags text f
  no_token : (given : List Token) (events : List (Ev × Position)) → AreSettled text given → BeginsPlaced keep_tags given events → HasPlacedTo to_next keep_tags given events → IsRefusal text f → IsFaultOf keep_tags text f
  no_stream : (before : List Token) (last : Token) (events : List (Ev × Position)) → AreFirst text (before ++ last ∷ []) → Blames f [] keep_tags (before ++ last ∷ []) events
      → BeginsPlaced keep_tags before events → NoneBegins keep_tags (toks (before ++ last ∷ [])) → IsFaultOf keep_tags text f

-- These are the events before the fault, unless memory was refused.
abbrev pub ComesAfter : {keep_tags : Bool} {text : List ℕ} {f : ErrorReport} → IsFaultOf keep_tags text f → List (Ev × Position) → Type 0
ComesAfter (wants_memory w) es = Unit {0}
ComesAfter (no_token given events settled begins has r) es = es ≡ events
ComesAfter (no_stream before last events first blames begins none) es = es ≡ events

-- How a load of the text ends: the receiver took all its events; or the parser has a fault, and the receiver took the events before it; or
-- the receiver refused an event that is the next of the text.
pub data AnswersText {R : Type 0} (takes : R → Ev → Position → Result (Unit {0}) ErrorReport → R → Type 0) (keep_tags : Bool) (text : List ℕ) (r : R) : Result (Unit {0}) ErrorReport → R → Type 0 where
  whole : {s : R} (es : List (Ev × Position)) → HasEvents keep_tags text es → Receives takes r es s → AnswersText takes keep_tags text r (Ok tt) s
  faulted : {s : R} {f : ErrorReport} (es : List (Ev × Position)) (why : IsFaultOf keep_tags text f) → ComesAfter why es → Receives takes r es s → AnswersText takes keep_tags text r (Err f) s
  refused : {s t : R} {f : ErrorReport} (es : List (Ev × Position)) (e : Ev) (p : Position) → BeginsEvents keep_tags text (es ++ (e, p) ∷ []) → Receives takes r es s → takes s e p (Err f) t
      → AnswersText takes keep_tags text r (Err f) t
