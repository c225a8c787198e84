-- Laws of two answers about one text, of two loads of one text, and of two parsers of one text: each is the contract of the function of `src/laws.rt` that its comment names.
use Rattle.std.specs.Prelude.{◌≡◌, ◌⊎◌, ℕ, Bool, true, false, List, Result, Ok, Err, IfOk, Vec}
use Rattle.std.specs.declared.alloc.Global.{Global}
use Rattle.defs_text.specs.Position.{Position}
use Rattle.defs_tree.specs.Tree.{Tree}
use Rattle.defs_event.specs.Event.{Ev}
use Rattle.defs_event.specs.Stream.{events_of}
use Rattle.yaml_tokens.specs.ErrorReport.{ErrorReport}
use Rattle.yaml_tree.specs.View.{items_view}
use Rattle.yaml_tree.specs.declared.yaml.Yaml.{Yaml}
use Rattle.yaml_scanner.specs.Scanned.{ScansIn}
use Rattle.yaml_parser.specs.Parsed.{Parsed, read}
use Rattle.yaml_parser.specs.Follows.{IsWhole}
use Rattle.yaml_parser.specs.Loads.{Loads, Receives}
use Rattle.defs_event.specs.Meaning.{Means}
use Rattle.proof_loads.specs.AtStart.{IsAtStart}
use Rattle.yaml_loader.specs.RepeatedKey.{TellsKey}
use Rattle.yaml_loader.specs.TextLoads.{LoadsText}

-- An answer is of the text's row: if it is `Ok`, its documents are what the text means by the definitions alone. It is the clause `of_row` of a load.
abbrev pub IsOfRow : (keep_tags : Bool) → (text : List ℕ) → Result (Vec Yaml Global) ErrorReport → Type 0
IsOfRow keep_tags text answer = IfOk answer (λ documents. Means keep_tags text (items_view documents.items))

-- If both answers are `Ok`, their documents are the same trees.
abbrev pub Agree : (one other : Result (Vec Yaml Global) ErrorReport) → Type 0
Agree (Ok ones) (Ok others) = items_view ones.items ≡ items_view others.items
Agree one other = Unit {0}

-- `one_list_of_documents`: whoever gave them
abbrev pub OneListOfDocuments : Type 0
OneListOfDocuments = (keep_tags : Bool) (text : List ℕ) (one other : Result (Vec Yaml Global) ErrorReport) → IsOfRow keep_tags text one → IsOfRow keep_tags text other → Agree one other

-- Unless memory was refused, both answers say the same: the same trees; or the same fault, with its text and its position; or that the same key comes
-- twice.
abbrev pub SayTheSame : (one other : Result (Vec Yaml Global) ErrorReport) → Type 0
SayTheSame (Ok ones) (Ok others) = items_view ones.items ≡ items_view others.items
SayTheSame (Ok ones) (Err g) = g.memory ≡ true
SayTheSame (Err f) (Ok others) = f.memory ≡ true
SayTheSame (Err f) (Err g) = f.memory ≡ false → g.memory ≡ false → (f ≡ g) ⊎ ((key : Tree) × TellsKey key f.text × TellsKey key g.text)

-- `one_answer`: two answers that keep the clause `reads` of a load, whoever gave them
abbrev pub OneAnswer : Type 0
OneAnswer = (keep_tags : Bool) (text : List ℕ) (one other : Result (Vec Yaml Global) ErrorReport) → LoadsText keep_tags text one → LoadsText keep_tags text other → SayTheSame one other

-- `one_list_of_pulled_events`; two parsers that have read a text to its end
abbrev pub OneListOfPulledEvents : Type 0
OneListOfPulledEvents = (p q : Parsed) (text : List ℕ) → p.keep_tags ≡ q.keep_tags → ScansIn text p.scanner → ScansIn text q.scanner → IsWhole p → IsWhole q → events_of (read p) ≡ events_of (read q)

-- Two receivers took events, and these are the same.
pub record TookTheSame {R S : Type 0} (takes : R → Ev → Position → Result (Unit {0}) ErrorReport → R → Type 0) (r r' : R) (others : S → Ev → Position → Result (Unit {0}) ErrorReport → S → Type 0) (s s' : S) : Type 0 where
  pub events : List (Ev × Position)
  pub other_events : List (Ev × Position)
  pub took : Receives takes r events r'
  pub other_took : Receives others s other_events s'
  pub same : events_of events ≡ events_of other_events

-- `one_list_of_pushed_events`, for each two kinds of receivers: two loads of a text by parsers at their start, both `Ok`
abbrev pub OneListOfPushedEvents : {R S : Type 0} → (R → Ev → Position → Result (Unit {0}) ErrorReport → R → Type 0) → (S → Ev → Position → Result (Unit {0}) ErrorReport → S → Type 0) → Type 0
OneListOfPushedEvents {R} {S} takes others =
    (p p' q q' : Parsed) (r r' : R) (s s' : S) (text : List ℕ) → IsAtStart p → IsAtStart q → p.keep_tags ≡ q.keep_tags → ScansIn text p'.scanner → ScansIn text q'.scanner
    → Loads takes true p r (Ok tt) p' r' → Loads others true q s (Ok tt) q' s' → TookTheSame takes r r' others s s'
