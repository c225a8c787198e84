-- What the tokens that were taken say of the events, and of a fault.
use Rattle.std.specs.Prelude.{◌≡◌, ◌⊎◌, List, [], ◌∷◌, ◌++◌, true, false, Option, Some, None}
use Rattle.defs_token.specs.Token.{Tok, Token}
use Rattle.yaml_tokens.specs.ErrorReport.{ErrorReport}
use Rattle.defs_event.specs.Event.{Ev}
use Rattle.defs_event.specs.Raw.{Raw}
use Rattle.defs_token.specs.Toks.{toks}
use Rattle.defs_event.specs.Stream.{StreamSays, IsStream, IsPlacedStream, to_next, HasPlacedTo, BeginsPlaced, Foretells, NoneBegins, events_of}
use Rattle.yaml_parser.specs.Blames.{Blames, WantsMemory}
use Rattle.yaml_parser.specs.Derived.{IsDerived, IsStreamSince, ForetellsRaw}
use Rattle.yaml_parser.specs.Halts.{IsHalted}
use Rattle.yaml_parser.specs.Parsed.{Parsed, read}
use Rattle.yaml_parser.specs.Settings.{AreAll}

abbrev pub listed : Option Token → List Token
listed None = []
listed (Some t) = t ∷ []

-- The tokens taken are some before and at most one more. Some stream begins with those before and with the events read. Each
-- stream that begins with the tokens taken begins with the events read.
pub record Follows (p : Parsed) : Type 0 where
  pub before : List Token
  pub last : Option Token
  pub tokens : p.scanner.given ≡ before ++ listed last
  pub begins : BeginsPlaced p.keep_tags before (read p)
  pub only : Foretells p.keep_tags (toks p.scanner.given) (events_of (read p))

-- The tokens taken are some before and the last. Some stream begins with those before and with the events read. No stream begins with all of them.
pub record Refused (p : Parsed) : Type 0 where
  pub before : List Token
  pub last : Token
  pub tokens : p.scanner.given ≡ before ++ last ∷ []
  pub begins : BeginsPlaced p.keep_tags before (read p)
  pub none : NoneBegins p.keep_tags (toks p.scanner.given)

-- The tokens taken are a whole stream, whose events were read. No stream goes on after it.
pub record IsWhole (p : Parsed) : Type 0 where
  pub stream : IsPlacedStream p.keep_tags p.scanner.given (read p)
  pub only : (ts : List Tok) (es : List Ev) → IsStream p.keep_tags (toks p.scanner.given ++ ts) es → (ts ≡ []) × (es ≡ events_of (read p))

-- Whatever the settings were: the tokens taken are some before and at most one more. The events read come of those before, and each
-- stream that begins with the tokens taken begins with them.
pub record Derives (p : Parsed) : Type 0 where
  pub before : List Token
  pub last : Option Token
  pub tokens : p.scanner.given ≡ before ++ listed last
  pub raw : List Raw
  pub derived : IsDerived p.settings p.keep_tags before raw (read p)
  pub only : ForetellsRaw (toks p.scanner.given) raw

-- Whatever the settings were: the tokens taken are a whole stream, whose events were read. No stream goes on after it.
pub record IsComplete (p : Parsed) : Type 0 where
  pub raw : List Raw
  pub stream : IsStreamSince p.settings p.keep_tags p.scanner.given raw (read p)
  pub only : (ts : List Tok) (es : List Raw) → StreamSays (toks p.scanner.given ++ ts) es → ts ≡ []

-- The last token is refused: by its text and position, and by the grammar.
pub record IsRefusedAtLast (f : ErrorReport) (p : Parsed) : Type 0 where
  pub blames : Blames f p.settings p.keep_tags p.scanner.given (read p)
  pub steady : p.steady ≡ true → AreAll p.keep_tags p.settings
  pub refused : p.steady ≡ true → Refused p

-- The scanner met the fault, after all tokens that are settled before it, unless memory was refused. A stream begins with all tokens that it handed
-- out, and with the events read: so the parser refuses none of them. The events read are those that these tokens say where the next one is
-- wanted, each at its position.
pub record IsOfScanner (f : ErrorReport) (p : Parsed) : Type 0 where
  pub fault : p.scanner.fault ≡ Some f
  pub settled : f.memory ≡ false → p.scanner.early ≡ false
  pub halted : IsHalted p.settings p.keep_tags p.scanner.given (read p)
  pub begins : p.steady ≡ true → BeginsPlaced p.keep_tags p.scanner.given (read p)
  pub so_far : p.steady ≡ true → HasPlacedTo to_next p.keep_tags p.scanner.given (read p)

-- Why a fault comes, and what the events beside it are: it is the scanner's, and they are those of the tokens taken; or memory was refused; or the last
-- token is refused, and they are those of the tokens before it.
abbrev pub Explains : ErrorReport → Parsed → Type 0
Explains f p = IsOfScanner f p ⊎ (WantsMemory f ⊎ IsRefusedAtLast f p)
