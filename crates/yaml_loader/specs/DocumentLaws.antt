-- Statements over the definitions, each the contract of the function with its name in `laws`.
use Rattle.std.specs.Prelude.{◌≡◌, ℕ, Bool, true, List, ◌++◌}
use Rattle.defs_tree.specs.Tree.{Tree}
use Rattle.yaml_tokens.specs.ErrorReport.{ErrorReport}
use Rattle.defs_event.specs.Meaning.{Means}
use Rattle.yaml_loader.specs.FirstDocuments.{BeginsAs, IsStopped}

-- `given_documents_are_the_first`
abbrev pub GivenDocumentsAreTheFirst : Type 0
GivenDocumentsAreTheFirst =
    (keep_tags : Bool) (text : List ℕ) (trees all : List Tree) → BeginsAs keep_tags text trees → Means keep_tags text all → (more : List Tree) × (all ≡ trees ++ more)

-- `texts_that_load_are_not_stopped`
abbrev pub TextsThatLoadAreNotStopped : Type 0
TextsThatLoadAreNotStopped =
    (keep_tags : Bool) (text : List ℕ) (trees all : List Tree) (f : ErrorReport) → IsStopped keep_tags text trees f → Means keep_tags text all → f.memory ≡ true
