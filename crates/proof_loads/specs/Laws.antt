-- Laws of what texts mean, and of what is read of them: each is the contract of the function of `src/laws.rt` that its comment names.
use Rattle.std.specs.Prelude.{◌≡◌, ℕ, Bool, true, false, Option, List, length, [], ◌∷◌, ◌++◌, Result, Ok, Err, Some}
use Rattle.std.specs.Iterator.{AlwaysYields}
use Rattle.std.specs.Str.{chars, IsUtf8}
use Rattle.std.specs.Str.Iter.{chars_steps, chars_rest}
use Rattle.std.specs.declared.str.Chars.{Chars}
use Rattle.defs_text.specs.Position.{Position}
use Rattle.yaml_chars.specs.Source.{CameFrom}
use Rattle.defs_text.specs.Text.{up_to_nul}
use Rattle.yaml_chars.specs.WindowView.{HasNoNul}
use Rattle.defs_token.specs.Token.{Token}
use Rattle.defs_tree.specs.Tree.{Tree}
use Rattle.defs_tree.specs.DumpText.{dump_text}
use Rattle.defs_layout.specs.Json.{JsonText, IsWellFormed, spell_text, tree_of}
use Rattle.defs_layout.specs.DumpIsInjective.{CanBeWritten}
use Rattle.yaml_tokens.specs.ErrorReport.{ErrorReport}
use Rattle.defs_event.specs.Event.{Ev}
use Rattle.defs_event.specs.PulledList.{Answer, IsSettled}
use Rattle.defs_event.specs.Stream.{events_of, AgreeAt}
use Rattle.defs_event.specs.Unfinished.{new_loader, with_events}
use Rattle.defs_event.specs.Laws.{HasRead}
use Rattle.model_scanner.specs.State.{ScannerState}
use Rattle.model_scanner.specs.Run.{Reaches}
use Rattle.yaml_scanner.specs.Follows.{BeginsWith, IsReached}
use Rattle.yaml_scanner.specs.Scanned.{Scanned, MayBe, ScansIn, Scans}
use Rattle.yaml_parser.specs.Parsed.{Parsed, read}
use Rattle.yaml_parser.specs.Follows.{Follows, Refused, IsWhole, Explains}
use Rattle.yaml_parser.specs.Loads.{Loads, PullsAll, Receives}
use Rattle.defs_event.specs.ReadAs.{IsAtWork}
use Rattle.defs_event.specs.Meaning.{Means}
use Rattle.proof_loads.specs.AtStart.{IsAtStart}
use Rattle.proof_loads.specs.TextEvents.{IsFaultOf, ComesAfter, AnswersText}
use Rattle.proof_loads.specs.LoadsAs.{LoadsAs}
use Rattle.proof_loads.specs.Spelled.{IsWithoutNul}

-- ---- tokens that are settled

-- `settled_tokens_stay`
abbrev pub SettledTokensStay : Type 0
SettledTokensStay = (text : List ℕ) (given : List Token) (r : IsReached text given) (later : ScannerState) → Reaches r.last later → BeginsWith given later.held.tokens

-- ---- faults

-- `one_fault`; two faults, whatever parsers have them, neither of which is refused memory
abbrev pub OneFault : Type 0
OneFault = (keep_tags : Bool) (text : List ℕ) (f g : ErrorReport) → IsFaultOf keep_tags text f → IsFaultOf keep_tags text g → f.memory ≡ false → g.memory ≡ false → f ≡ g

-- `one_list_of_events_before_a_fault`; the events before two faults, neither of which is refused memory
abbrev pub OneListOfEventsBefore : Type 0
OneListOfEventsBefore =
    (keep_tags : Bool) (text : List ℕ) (f g : ErrorReport) (es fs : List (Ev × Position)) (why : IsFaultOf keep_tags text f) (other : IsFaultOf keep_tags text g) → f.memory ≡ false → g.memory ≡ false
    → ComesAfter why es → ComesAfter other fs → AgreeAt es fs

-- `one_list_of_events_pulled_before_a_fault`; two parsers that keep a fault, neither of which is refused memory
abbrev pub OneListOfPulledEventsBefore : Type 0
OneListOfPulledEventsBefore =
    (p q : Parsed) (text : List ℕ) (f g : ErrorReport) → p.keep_tags ≡ q.keep_tags → p.steady ≡ true → q.steady ≡ true → ScansIn text p.scanner → ScansIn text q.scanner → Explains f p → Explains g q
    → f.memory ≡ false → g.memory ≡ false → AgreeAt (read p) (read q)

-- Two receivers took events, and these are the same.
pub record TookTheSameBefore {R S : Type 0} (takes : R → Ev → Position → Result (Unit {0}) ErrorReport → R → Type 0) (r r' : R) (others : S → Ev → Position → Result (Unit {0}) ErrorReport → S → Type 0) (s s' : S) : Type 0 where
  pub events : List (Ev × Position)
  pub other_events : List (Ev × Position)
  pub took : Receives takes r events r'
  pub other_took : Receives others s other_events s'
  pub agree : AgreeAt events other_events

-- `one_list_of_events_pushed_before_a_fault`, for each two kinds of receivers: two loads of a text by parsers at their start, which keep a fault
-- then, neither of which is refused memory
abbrev pub OneListOfPushedEventsBefore : {R S : Type 0} → (R → Ev → Position → Result (Unit {0}) ErrorReport → R → Type 0) → (S → Ev → Position → Result (Unit {0}) ErrorReport → S → Type 0) → Type 0
OneListOfPushedEventsBefore {R} {S} takes others =
    (p p' q q' : Parsed) (r r' : R) (s s' : S) (text : List ℕ) (f g : ErrorReport) → IsAtStart p → IsAtStart q → p.keep_tags ≡ q.keep_tags → ScansIn text p'.scanner → ScansIn text q'.scanner
    → Loads takes true p r (Err f) p' r' → Loads others true q s (Err g) q' s' → p'.fault ≡ Some f → q'.fault ≡ Some g → f.memory ≡ false → g.memory ≡ false → TookTheSameBefore takes r r' others s s'

-- ---- a parser somewhere in a text

-- `read_texts_are_not_refused`
abbrev pub ReadTextsAreNotRefused : Type 0
ReadTextsAreNotRefused = (p : Parsed) (text : List ℕ) (trees : List Tree) → Means p.keep_tags text trees → ScansIn text p.scanner → Refused p → ⊥

-- `read_texts_have_no_fault_but_memory`
abbrev pub ReadTextsHaveNoFaultButMemory : Type 0
ReadTextsHaveNoFaultButMemory =
    (p : Parsed) (f : ErrorReport) (text : List ℕ) (trees : List Tree) → Means p.keep_tags text trees → ScansIn text p.scanner → p.steady ≡ true → Explains f p
    → f.memory ≡ true

-- `events_of_read_texts_are_read`; `es` are a beginning of the events
abbrev pub EventsOfReadTextsAreRead : Type 0
EventsOfReadTextsAreRead =
    (p : Parsed) (text : List ℕ) (trees : List Tree) (es more : List (Ev × Position)) → Means p.keep_tags text trees → ScansIn text p.scanner → Follows p
    → read p ≡ es ++ more → IsAtWork (with_events new_loader es)

-- `read_texts_have_their_trees`
abbrev pub ReadTextsHaveTheirTrees : Type 0
ReadTextsHaveTheirTrees =
    (p : Parsed) (text : List ℕ) (trees : List Tree) → Means p.keep_tags text trees → ScansIn text p.scanner → IsWhole p
    → HasRead (Ok trees) (with_events new_loader (read p))

-- ---- a load

-- `read_texts_have_one_list_of_events`; two parsers that have read as many events of the text
abbrev pub ReadTextsHaveOneListOfEvents : Type 0
ReadTextsHaveOneListOfEvents =
    (p q : Parsed) (text : List ℕ) (trees : List Tree) → Means p.keep_tags text trees → q.keep_tags ≡ p.keep_tags → ScansIn text p.scanner → ScansIn text q.scanner → Follows p → Follows q
    → length (read p) ≡ length (read q) → events_of (read p) ≡ events_of (read q)

-- `answers_are_settled`; the answers of calls of `next_token`, one after the other
abbrev pub AnswersAreSettled : Type 0
AnswersAreSettled = (p q : Parsed) (answers : List (Answer ErrorReport)) → PullsAll p answers q → IsSettled answers

-- `texts_are_answered`, for each kind of receiver
abbrev pub TextsAreAnswered : {R : Type 0} → (R → Ev → Position → Result (Unit {0}) ErrorReport → R → Type 0) → Type 0
TextsAreAnswered {R} takes =
    (old new : Parsed) (r s : R) (result : Result (Unit {0}) ErrorReport) (text : List ℕ) → IsAtStart old → ScansIn text new.scanner → Loads takes true old r result new s
    → AnswersText takes old.keep_tags text r result s

-- `read_texts_are_loaded`, for each kind of receiver
abbrev pub ReadTextsAreLoaded : {R : Type 0} → (R → Ev → Position → Result (Unit {0}) ErrorReport → R → Type 0) → Type 0
ReadTextsAreLoaded {R} takes =
    (old new : Parsed) (r s : R) (result : Result (Unit {0}) ErrorReport) (text : List ℕ) (trees : List Tree)
    → IsAtStart old → Means old.keep_tags text trees → ScansIn text new.scanner → Loads takes true old r result new s → LoadsAs takes trees r result s

-- ---- JSON texts

-- `json_texts_mean_their_tree`
abbrev pub JsonTextsMeanTheirTree : Type 0
JsonTextsMeanTheirTree = (keep_tags : Bool) (w : JsonText) → IsWellFormed w → Means keep_tags (spell_text w) (tree_of w.value ∷ [])

-- `json_texts_are_loaded`, for each kind of receiver
abbrev pub JsonTextsAreLoaded : {R : Type 0} → (R → Ev → Position → Result (Unit {0}) ErrorReport → R → Type 0) → Type 0
JsonTextsAreLoaded {R} takes =
    (old new : Parsed) (r s : R) (result : Result (Unit {0}) ErrorReport) (w : JsonText)
    → IsAtStart old → IsWellFormed w → ScansIn (spell_text w) new.scanner → Loads takes true old r result new s → LoadsAs takes (tree_of w.value ∷ []) r result s

-- `json_texts_are_without_nul`
abbrev pub JsonTextsAreWithoutNul : Type 0
JsonTextsAreWithoutNul = (w : JsonText) → IsWellFormed w → IsWithoutNul (spell_text w)

-- ---- dumps

-- `dumps_mean_their_tree`, in each setting
abbrev pub DumpsMeanTheirTree : Type 0
DumpsMeanTheirTree = (keep_tags compact multiline : Bool) (t : Tree) → CanBeWritten t → Means keep_tags (dump_text compact multiline t) (t ∷ [])

-- ---- the text after an iterator

-- `characters_are_the_text`, for each kind of iterator; `all` are the characters that it always gives
abbrev pub CharactersAreTheText : {S : Type 0} → (S → Option ℕ → S → Type 0) → Type 0
CharactersAreTheText {S} steps =
    (start : S) (all : List ℕ) (s : Scanned) → AlwaysYields steps (λ c. c) start all → CameFrom steps start s.taken s.done → HasNoNul s.taken → MayBe s (up_to_nul all)

-- `strings_are_the_text`; `bytes` are the string's
abbrev pub StringsAreTheText : Type 0
StringsAreTheText =
    (start : Chars) (bytes : List ℕ) (s : Scanned) → IsUtf8 bytes → chars_rest start ≡ bytes → CameFrom chars_steps start s.taken s.done → HasNoNul s.taken → Scans s
    → ScansIn (up_to_nul (chars bytes)) s
