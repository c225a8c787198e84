-- Tokens that are a stream, and the trees that its events are read as.
use Rattle.std.specs.Prelude.{◌≡◌, Bool, List, Ok}
use Rattle.defs_token.specs.Token.{Tok}
use Rattle.defs_tree.specs.Tree.{Tree}
use Rattle.defs_event.specs.Stream.{IsStream}
use Rattle.defs_event.specs.Nested.{NestedDocument, nested_stream}
use Rattle.defs_event.specs.Reading.{reading}
use Rattle.defs_event.specs.Unfinished.{Loader, at_work}

-- These are the tokens of a stream, its events are nested, and they are read as these trees.
pub record ReadAs (keep_tags : Bool) (tokens : List Tok) (trees : List Tree) : Type 0 where
  pub documents : List NestedDocument
  pub stream : IsStream keep_tags tokens (nested_stream documents)
  pub trees_are : reading documents ≡ Ok trees

-- a loader that has neither noted a key that came twice nor refused an event
abbrev pub IsAtWork : Loader → Type 0
IsAtWork (at_work u) = Unit {0}
IsAtWork _ = ⊥
