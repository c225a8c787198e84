-- Rows are cuts, and what a text means is read of a cut of it: each law is the contract of the function of `src/cuts.rt` that its comment names.
use Rattle.std.specs.Prelude.{◌≡◌, ℕ, Bool, true, List}
use Rattle.defs_text.specs.Text.{up_to_nul, has_no_nul}
use Rattle.defs_token.specs.Token.{Token}
use Rattle.defs_tree.specs.Tree.{Tree}
use Rattle.defs_token.specs.Cut.{IsCut}
use Rattle.defs_token.specs.Toks.{toks}
use Rattle.defs_token.specs.Row.{IsRead}
use Rattle.defs_event.specs.ReadAs.{ReadAs}
use Rattle.defs_event.specs.Meaning.{Means}

-- A cut of the text: its tokens are a stream's, whose events are read as these trees.
pub record IsReadOfCut (keep_tags : Bool) (text : List ℕ) (trees : List Tree) : Type 0 where
  pub tokens : List Token
  pub is_cut : IsCut tokens text
  pub read : ReadAs keep_tags (toks tokens) trees

-- `rows_are_cuts`
abbrev pub RowsAreCuts : Type 0
RowsAreCuts = (text : List ℕ) (tokens : List Token) → has_no_nul text ≡ true → IsRead text tokens → IsCut tokens text

-- `meant_trees_are_read_of_a_cut`
abbrev pub MeantTreesAreReadOfACut : Type 0
MeantTreesAreReadOfACut = (keep_tags : Bool) (text : List ℕ) (trees : List Tree) → Means keep_tags (up_to_nul text) trees → IsReadOfCut keep_tags (up_to_nul text) trees
