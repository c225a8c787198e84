-- What a text means by the definitions alone: the trees as which the tokens of its row are read. No model of a scanner or a parser is in it.
-- YAML 1.2, chapters 3 and 5 to 10.
use Rattle.std.specs.Prelude.{◌≡◌, ℕ, Bool, List}
use Rattle.defs_tree.specs.Tree.{Tree}
use Rattle.defs_token.specs.Token.{Token}
use Rattle.defs_token.specs.Toks.{toks}
use Rattle.defs_event.specs.Event.{Ev}
use Rattle.defs_event.specs.Stream.{IsStream}
use Rattle.defs_event.specs.ReadAs.{ReadAs}
use Rattle.defs_token.specs.Row.{IsRead}

-- The text is read as tokens, these are a stream's, and these are its events.
pub record HasEvents (keep_tags : Bool) (text : List ℕ) (events : List Ev) : Type 0 where
  pub tokens : List Token
  pub has : IsRead text tokens
  pub stream : IsStream keep_tags (toks tokens) events

-- The text is read as tokens, and these are read as trees, one for each document.
pub record Means (keep_tags : Bool) (text : List ℕ) (trees : List Tree) : Type 0 where
  pub tokens : List Token
  pub has : IsRead text tokens
  pub read : ReadAs keep_tags (toks tokens) trees

-- `one_list_of_events`: a text has at most one list of events
abbrev pub OneListOfEvents : Type 0
OneListOfEvents = (keep_tags : Bool) (text : List ℕ) (es fs : List Ev) → HasEvents keep_tags text es → HasEvents keep_tags text fs → es ≡ fs

-- `one_meaning`: a text means at most one list of trees
abbrev pub OneMeaning : Type 0
OneMeaning = (keep_tags : Bool) (text : List ℕ) (ts us : List Tree) → Means keep_tags text ts → Means keep_tags text us → ts ≡ us
