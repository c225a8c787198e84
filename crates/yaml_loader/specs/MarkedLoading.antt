-- What a load with positions gives.
use Rattle.std.specs.Prelude.{◌≡◌, ℕ, Bool, List, Result, Ok, Err, Vec}
use Rattle.std.specs.declared.alloc.Global.{Global}
use Rattle.defs_text.specs.Position.{Position}
use Rattle.defs_event.specs.Event.{Ev}
use Rattle.defs_event.specs.Marking.{marked_documents}
use Rattle.defs_event.specs.Marks.{Marks}
use Rattle.yaml_tokens.specs.ErrorReport.{ErrorReport}
use Rattle.yaml_tree.specs.declared.yaml.Yaml.{Yaml}
use Rattle.proof_loads.specs.PlacedEvents.{HasEvents}
use Rattle.yaml_loader.specs.declared.marked_documents.MarkedDocuments.{MarkedDocuments}

-- the result without positions
abbrev pub plain : Result MarkedDocuments ErrorReport → Result (Vec Yaml Global) ErrorReport
plain (Ok d) = Ok d.documents
plain (Err f) = Err f

-- These are the marks that the text's events give.
abbrev pub AreMarksOf : Bool → List ℕ → List Marks → Type 0
AreMarksOf keep_tags text ms = (es : List (Ev × Position)) × HasEvents keep_tags text es × (marked_documents es ≡ ms)
