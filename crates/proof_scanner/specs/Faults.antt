-- Faults that stand in a text by themselves: a bad escape, an end or a document marker inside a quoted scalar, a flow collection too deep, a dash in flow.
use Rattle.std.specs.Prelude.{◌≡◌, ℕ, List, ◌∷◌, ◌++◌, Bool, true, false, ◌==◌, ◌||◌, None}
use Rattle.yaml_tokens.specs.declared.problem.Fault.{Fault}
use Rattle.yaml_tokens.specs.declared.problem.Fault.TheVariants.{At}
use Rattle.yaml_tokens.specs.declared.problem.Problem.{Problem}
use Rattle.yaml_tokens.specs.declared.problem.Problem.TheVariants as problem
use Rattle.defs_text.specs.Classes.{is_at_gap}
use Rattle.defs_text.specs.Text.{up_to_nul}
use Rattle.defs_text.specs.Position.{position_after}
use Rattle.defs_token.specs.Separation.{is_separation}
use Rattle.defs_token.specs.Plain.{begins_flow, after_blank}
use Rattle.defs_token.specs.Account.{Account, first_account, is_in_flow, has_room, account_past_separation}
use Rattle.defs_token.specs.Piece.{Holds}
use Rattle.defs_token.specs.Cut.{Written, IsRow, spelled, account_past_row}
use Rattle.model_scanner.specs.Quoted.{quote_of}
use Rattle.proof_lexers.specs.QuotedScan.{has_marker}
use Rattle.proof_lexers.specs.QuotedEnds.{HasElements, IsBadEscape}
use Rattle.proof_lexers.specs.PlainEnds.{stand_after, is_apart}

-- A position of a text after a row of pieces and a separation: the text from there on, and the account.
pub record IsSpot (text rest : List ℕ) (account : Account) : Type 0 where
  pub row : List Written
  pub separation : List ℕ
  pub is_text : spelled row (separation ++ rest) ≡ up_to_nul text
  pub is_row : IsRow first_account row (separation ++ rest) None
  pub is_filled : Holds (is_separation false separation rest)
  pub is_account : account_past_separation (account_past_row first_account row (separation ++ rest)) separation rest ≡ account

-- A fault stands in a text, after a row of pieces: in a scalar in double quotes an escape that is none; a quoted scalar that does not end, or with a document marker at the start of a line; an opening
-- bracket where as many flow collections are open as may be; in flow a dash before a gap, or a dash before a flow indicator where a plain scalar begins or goes on after a blank or a break.
pub data IsThere (text : List ℕ) : Fault → Type 0 where
  bad_escape : (a : Account) (body rest : List ℕ) (why : Problem) → IsSpot text (34 ∷ (body ++ 92 ∷ rest)) a → HasElements false body → IsBadEscape rest why → IsThere text (At why a.position)
  open_quote : (a : Account) (single : Bool) (body : List ℕ) → IsSpot text (quote_of single ∷ body) a → HasElements single body → IsThere text (At problem.QuotedEnd a.position)
  marked_quote : (a : Account) (single : Bool) (body rest : List ℕ) → IsSpot text (quote_of single ∷ (body ++ rest)) a → HasElements single body → has_marker body rest ≡ true → IsThere text (At problem.QuotedDocumentMarker a.position)
  too_deep : (a : Account) (c : ℕ) (rest : List ℕ) → IsSpot text (c ∷ rest) a → ((c == 91) || (c == 123)) ≡ true → has_room a ≡ false → IsThere text (At problem.FlowTooDeep a.position)
  entry_in_flow : (a : Account) (rest : List ℕ) → IsSpot text (45 ∷ rest) a → is_at_gap rest ≡ true → is_in_flow a ≡ true → IsThere text (At problem.BlockEntryInFlow a.position)
  dash_in_flow : (a : Account) (before rest : List ℕ) → IsSpot text (before ++ 45 ∷ rest) a → begins_flow rest ≡ true → is_in_flow a ≡ true → is_apart (stand_after after_blank before) ≡ true
      → IsThere text (At problem.PlainDashInFlow (position_after a.position before (45 ∷ rest)))

-- whether a fault is of these
abbrev pub is_shown : Fault → Bool
is_shown (At problem.UnknownEscape p) = true
is_shown (At problem.HexadecimalDigit p) = true
is_shown (At problem.EscapedCode p) = true
is_shown (At problem.QuotedEnd p) = true
is_shown (At problem.QuotedDocumentMarker p) = true
is_shown (At problem.FlowTooDeep p) = true
is_shown (At problem.BlockEntryInFlow p) = true
is_shown (At problem.PlainDashInFlow p) = true
is_shown _ = false
