-- What a load answers of a text whose trees the definitions give: no model of a scanner or a parser is in it.
use Rattle.std.specs.Prelude.{◌≡◌, List, [], ◌∷◌, ℕ, true, false, Option, Result, Ok, Err, Vec}
use Rattle.std.specs.Iterator.{AlwaysYields}
use Rattle.std.specs.declared.alloc.Global.{Global}
use Rattle.defs_tree.specs.Tree.{Tree}
use Rattle.defs_layout.specs.Json.{IsJsonText}
use Rattle.defs_layout.specs.Basic.{IsBasicLayout}
use Rattle.defs_layout.specs.Layout.{AreLaidOut}
use Rattle.defs_layout.specs.QuotedText.{IsQuoted}
use Rattle.defs_event.specs.Meaning.{Means}
use Rattle.yaml_tokens.specs.ErrorReport.{ErrorReport}
use Rattle.yaml_tree.specs.View.{items_view}
use Rattle.yaml_tree.specs.declared.yaml.Yaml.{Yaml}

-- A load gives exactly these documents, or memory was refused.
abbrev pub LoadsOnly : Result (Vec Yaml Global) ErrorReport → List Tree → Type 0
LoadsOnly (Ok documents) trees = items_view documents.items ≡ trees
LoadsOnly (Err f) trees = f.memory ≡ true

-- P of the trees that a text means.
abbrev pub OfMeaning : List ℕ → (List Tree → Type 0) → Type 0
OfMeaning text P = (trees : List Tree) → Means false text trees → P trees

-- P of the one value of a JSON text.
abbrev pub OfJson : List ℕ → (List Tree → Type 0) → Type 0
OfJson text P = (tree : Tree) → IsJsonText tree text → P (tree ∷ [])

-- P of the one tree of a basic layout that is the text.
abbrev pub OfBasic : List ℕ → (List Tree → Type 0) → Type 0
OfBasic text P = (tree : Tree) → IsBasicLayout tree text → P (tree ∷ [])

-- P of the trees that any layout has which is the text, one for each document.
abbrev pub OfLayout : List ℕ → (List Tree → Type 0) → Type 0
OfLayout text P = (trees : List Tree) → AreLaidOut trees text → P trees

-- P of the string that is the value of the text's one quoted scalar, with line feeds alone after it.
abbrev pub OfQuoted : List ℕ → (List Tree → Type 0) → Type 0
OfQuoted text P = (value : List ℕ) → IsQuoted value text → P (Tree.string value ∷ [])

-- Q of the characters that an iterator always gives.
abbrev pub OfGiven : {S : Type 0} → (S → Option ℕ → S → Type 0) → S → (List ℕ → Type 0) → Type 0
OfGiven steps source Q = (text : List ℕ) → AlwaysYields steps (λ c. c) source text → Q text
