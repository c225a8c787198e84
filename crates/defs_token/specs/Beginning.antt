-- Beginnings of rows: steps with which a row of a text may begin, whatever comes after them; and the place that is reached so.
use Rattle.std.specs.Prelude.{◌≡◌, ℕ, List, [], ◌∷◌, ◌++◌, true, false, Option, Some, None}
use Rattle.defs_text.specs.Position.{Position, position_after}
use Rattle.defs_text.specs.Text.{up_to_nul}
use Rattle.defs_token.specs.Separation.{is_separation}
use Rattle.defs_token.specs.Piece.{Holds}
use Rattle.defs_token.specs.Step.{Step, spelled}
use Rattle.defs_token.specs.Column.{is_in_column}
use Rattle.defs_token.specs.Key.{taken, waits}
use Rattle.defs_token.specs.RowAccount.{Account, first_account, is_in_flow, account_past}
use Rattle.defs_token.specs.Row.{IsWritten}

-- Whether steps lead from an account to another, before the text after them: each step is written so and may stand.
abbrev pub Leads : Option Account → List Step → (after : List ℕ) → Account → Type 0
Leads None ws after b = ⊥
Leads (Some a) [] after b = a ≡ b
Leads (Some a) (w ∷ ws) after b = IsWritten a w (spelled ws after) × Leads (account_past a w (spelled ws after)) ws after b

-- A row of the text may begin so: steps that lead from where a text begins to an account, before the rest of the text. An implicit key that begins in them may still wait for its colon.
pub record Begins (text after : List ℕ) (a : Account) : Type 0 where
  pub steps : List Step
  pub spells : spelled steps after ≡ up_to_nul text
  pub leads : Leads (Some first_account) steps after a

-- A place of a text, before its rest: a row may begin with all pieces before it, and after the last of them a separation was read.
pub record IsPlace (text : List ℕ) (a : Account) (separation rest : List ℕ) (here : Position) : Type 0 where
  pub begins : Begins text (separation ++ rest) a
  pub is_filled : Holds (is_separation false separation rest)
  pub is_here : here ≡ position_after a.site.position separation rest

-- A row of the text may begin so but for a key: inside a flow collection, a node outside it waits for its colon, which must be an implicit key, as it began in the column of the innermost block collection; and from there, were it no key, steps would lead to an account, before the rest of the text.
pub record BeginsButForKey (text after : List ℕ) (begin : Position) (b : Account) : Type 0 where
  pub account : Account
  pub steps : List Step
  pub begins : Begins text (spelled steps after) account
  pub is_inside : is_in_flow account.entries ≡ true
  pub line_is : account.line ≡ waits begin
  pub must_be : is_in_column begin.col account.site.blocks ≡ true
  pub leads : Leads (Some (record account { line = taken })) steps after b
