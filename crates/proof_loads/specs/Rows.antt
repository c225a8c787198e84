-- Refused texts have no row, and the events of a text come from its row: each law is the contract of the function of `src/rows.rt` that its comment names.
use Rattle.std.specs.Prelude.{◌≡◌, ℕ, Bool, false, List}
use Rattle.std.specs.Str.{chars, IsUtf8}
use Rattle.std.specs.Str.Iter.{chars_steps, chars_rest}
use Rattle.std.specs.declared.str.Chars.{Chars}
use Rattle.defs_text.specs.Position.{Position}
use Rattle.defs_text.specs.Text.{up_to_nul}
use Rattle.yaml_chars.specs.WindowView.{HasNoNul}
use Rattle.yaml_chars.specs.Source.{CameFrom}
use Rattle.defs_token.specs.Token.{Token}
use Rattle.defs_token.specs.Row.{IsRead}
use Rattle.defs_event.specs.Event.{Ev}
use Rattle.defs_event.specs.Stream.{events_of}
use Rattle.yaml_tokens.specs.ErrorReport.{ErrorReport}
use Rattle.yaml_tokens.specs.declared.problem.Fault.{Fault}
use Rattle.model_scanner.specs.Run.{IsRefused}
use Rattle.yaml_scanner.specs.Rowless.{HasNoRow}
use Rattle.yaml_scanner.specs.Scanned.{Scanned, LeavesNoRow}
use Rattle.defs_event.specs.Meaning as meaning
use Rattle.proof_loads.specs.PlacedEvents.{HasEvents}
use Rattle.proof_loads.specs.Spelled.{IsWithoutNul}

-- `refused_texts_have_no_row`
abbrev pub RefusedTextsHaveNoRow : Type 0
RefusedTextsHaveNoRow = (text : List ℕ) (f : Fault) (tokens : List Token) → IsWithoutNul text → IsRefused text f → IsRead text tokens → ⊥

-- `texts_with_a_fault_have_no_row`; `bytes` are those of the string that a scanner reads
abbrev pub TextsWithAFaultHaveNoRow : Type 0
TextsWithAFaultHaveNoRow =
    (start : Chars) (bytes : List ℕ) (s : Scanned) (f : ErrorReport) → IsUtf8 bytes → chars_rest start ≡ bytes → CameFrom chars_steps start s.taken s.done → HasNoNul s.taken → LeavesNoRow s f → f.memory ≡ false
    → HasNoRow (up_to_nul (chars bytes)) f

-- `events_are_of_the_row`
abbrev pub EventsAreOfTheRow : Type 0
EventsAreOfTheRow =
    (keep_tags : Bool) (text : List ℕ) (events : List (Ev × Position)) → HasEvents keep_tags text events → meaning.HasEvents keep_tags text (events_of events)
