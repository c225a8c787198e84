-- What the open key outside flow says of every beginning of a row up to a place: where a key waits, it is that one; and one that must be a key waits in each.
use Rattle.std.specs.Prelude.{◌≡◌, ℕ, ◌+◌, ◌≤◌, List, true, Option, Some, None}
use Rattle.defs_text.specs.Position.{Position}
use Rattle.defs_token.specs.Key.{waits}
use Rattle.defs_token.specs.RowAccount.{Account}
use Rattle.defs_token.specs.Beginning.{Begins}
use Rattle.defs_token.specs.Row.{IsRowFrom, HasRow}
use Rattle.defs_token.specs.Step.{Row, Step, spelled}
use Rattle.model_scanner.specs.State.{Key}

-- a key is open, and it began at a position
abbrev pub IsAt : Option Key → Position → Type 0
IsAt None p = ⊥
IsAt (Some k) p = k.position ≡ p

-- A row of the text goes through a place: a beginning of one leads to an account there, and from it steps are a row to the text's end.
pub record GoesThrough (text after : List ℕ) : Type 0 where
  pub account : Account
  pub begins : Begins text after account
  pub steps : List Step
  pub last : List ℕ
  pub is_row : IsRowFrom (Some account) steps last
  pub spells : spelled steps last ≡ after

-- Of each beginning of a row before this text, at a position: if a key waits in it on this line, at most 1024 characters before, the open key is that one; and if the open key must be one, it waits. And each row of the text goes through this place.
pub record KnowsKey (text after : List ℕ) (here : Position) (k : Option Key) : Type 0 where
  pub waiting : (b : Account) (begin : Position) → Begins text after b → b.line ≡ waits begin → here.line ≤ begin.line → here.index ≤ begin.index + 1024 → IsAt k begin
  pub required : (b : Account) (x : Key) → Begins text after b → k ≡ Some x → x.required ≡ true → b.line ≡ waits x.position
  pub rows : (r : Row) → HasRow text r → GoesThrough text after
