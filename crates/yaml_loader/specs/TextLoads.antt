-- What a load promises of every text that its parser may have.
use Rattle.std.specs.Prelude.{List, ℕ, Bool, false, Result, Ok, Err, Vec}
use Rattle.std.specs.declared.alloc.Global.{Global}
use Rattle.yaml_tokens.specs.ErrorReport.{ErrorReport}
use Rattle.yaml_tree.specs.View.{items_view}
use Rattle.yaml_tree.specs.declared.yaml.Yaml.{Yaml}
use Rattle.yaml_scanner.specs.Scanned.{MayBe}
use Rattle.yaml_parser.specs.Parsed.{Parsed}
use Rattle.defs_event.specs.Meaning.{Means}
use Rattle.proof_loads.specs.AtStart.{IsAtStart}
use Rattle.yaml_loader.specs.Meant.{LoadsOnly, OfMeaning, OfJson, OfBasic, OfLayout, OfQuoted}
use Rattle.yaml_loader.specs.Unread.{IsUnread}

-- A load of the text gives the documents that it means, or a fault whose reason is in the text.
abbrev pub LoadsText : Bool → List ℕ → Result (Vec Yaml Global) ErrorReport → Type 0
LoadsText keep_tags text (Ok documents) = Means keep_tags text (items_view documents.items)
LoadsText keep_tags text (Err f) = IsUnread keep_tags text f

-- If the parser was at its start: P of every text that it may have.
abbrev pub OfTexts : Parsed → Parsed → (List ℕ → Type 0) → Type 0
OfTexts old new P = IsAtStart old → (text : List ℕ) → MayBe new.scanner text → P text

-- What a load of a text gives: the documents that it means, or a fault whose reason is in it. So for a text that means trees, for a JSON text, for a layout of one or
-- several documents and for a text of one quoted scalar it gives exactly their trees, or out of memory.
pub record Answers (text : List ℕ) (result : Result (Vec Yaml Global) ErrorReport) : Type 0 where
  pub reads : LoadsText false text result
  pub meant : OfMeaning text (LoadsOnly result)
  pub json : OfJson text (LoadsOnly result)
  pub basic : OfBasic text (LoadsOnly result)
  pub laid_out : OfLayout text (LoadsOnly result)
  pub quoted : OfQuoted text (LoadsOnly result)
