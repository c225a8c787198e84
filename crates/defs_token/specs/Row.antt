-- When a row is one of a text, and what a text's tokens are. A text has at most one row; a text without one is refused.
-- YAML 1.2, chapters 6 to 9.
use Rattle.std.specs.Prelude.{◌≡◌, ℕ, List, [], ◌∷◌, ◌++◌, false, not, Option, Some, None}
use Rattle.defs_token.specs.Token.{Token}
use Rattle.defs_text.specs.Text.{up_to_nul, is_empty}
use Rattle.defs_token.specs.Separation.{is_separation}
use Rattle.defs_token.specs.Piece.{Holds, IsPiece}
use Rattle.defs_token.specs.Step.{Step, Row, spelled}
use Rattle.defs_token.specs.RowAccount.{Site, Account, first_account, is_in_flow, site_at, seen, account_past, may_end}
use Rattle.defs_token.specs.Tokens.{shown_position, tokens_of_row}

-- Whether a piece at a site is one of the token it shows; it is not empty.
abbrev pub IsShown : Account → (at : Site) → Step → (next : List ℕ) → Type 0
IsShown a at w next = Holds (not (is_empty w.piece)) × IsPiece (seen a at w.separation) w.piece next None (shown_position at w.piece w.shown next) w.shown

-- Whether a step is written so: a separation, and a piece of the token it shows.
abbrev pub IsWritten : Account → Step → (next : List ℕ) → Type 0
IsWritten a w next = Holds (is_separation false w.separation (w.piece ++ next)) × IsShown a (site_at (is_in_flow a.entries) a.site w.separation w.piece w.shown next) w next

-- Whether steps and a last separation are a row from an account on: each step is written so and may stand, and the text may end.
abbrev pub IsRowFrom : Option Account → List Step → (last : List ℕ) → Type 0
IsRowFrom None ws last = ⊥
IsRowFrom (Some a) [] last = Holds (is_separation false last []) × Holds (may_end a)
IsRowFrom (Some a) (w ∷ ws) last = IsWritten a w (spelled ws last) × IsRowFrom (account_past a w (spelled ws last)) ws last

-- Whether a row is one of a text: it spells the text up to its end, and is a row.
abbrev pub HasRow : (text : List ℕ) → Row → Type 0
HasRow text r = (spelled r.steps r.last ≡ up_to_nul text) × IsRowFrom (Some first_account) r.steps r.last

-- Whether a text is read as tokens, positions included: they are those of a row of it.
abbrev pub IsRead : (text : List ℕ) → List Token → Type 0
IsRead text tokens = (r : Row) × HasRow text r × (tokens_of_row r ≡ tokens)

-- ---- what is stated

-- a text has at most one row
abbrev pub OneRow : Type 0
OneRow = (text : List ℕ) (r s : Row) → HasRow text r → HasRow text s → r ≡ s

-- a text is read as at most one list of tokens
abbrev pub OneReading : Type 0
OneReading = (text : List ℕ) (ts us : List Token) → IsRead text ts → IsRead text us → ts ≡ us
