-- When a list of tokens is a cut of a text: the text up to its end is a row of separations (blanks, breaks and comments) and pieces in order, and each piece belongs to one token.
-- YAML 1.2, chapters 6 to 9. The definition says which tokens stand where. It does not say that a text has a cut, or only one.
use Rattle.std.specs.Prelude.{◌≡◌, ℕ, ◌⊎◌, List, [], ◌∷◌, ◌++◌, false, Option, Some, None}
use Rattle.defs_text.specs.Position.{Position}
use Rattle.defs_token.specs.Token.{Tok, Token, stream_start, stream_end}
use Rattle.defs_text.specs.Text.{up_to_nul}
use Rattle.defs_token.specs.Separation.{is_separation}
use Rattle.defs_token.specs.Account.{Account, first_account, is_closed, account_past_separation, account_at_piece, account_past_token}
use Rattle.defs_token.specs.Piece.{Holds, IsPiece}

-- A token as it is written: the separation before its piece, and its piece, which is empty for some tokens.
pub record Written : Type 0 where
  pub separation : List ℕ
  pub piece : List ℕ
  pub token : Token

-- the text of a row of tokens, before the text after it
abbrev pub spelled : List Written → (after : List ℕ) → List ℕ
spelled [] after = after
spelled (w ∷ ws) after = w.separation ++ (w.piece ++ spelled ws after)

-- the tokens of a row
abbrev pub tokens_of : List Written → List Token
tokens_of [] = []
tokens_of (w ∷ ws) = w.token ∷ tokens_of ws

-- the first token of a row, or else the one known to stand after it
abbrev pub first_token : List Written → (last : Option Tok) → Option Tok
first_token [] last = last
first_token (w ∷ ws) last = Some (w.token.tok)

-- the account at a token's piece, from that before its separation; the text after the token
abbrev pub account_at : Account → Written → (next : List ℕ) → Account
account_at a w next = account_at_piece (account_past_separation a w.separation (w.piece ++ next)) w.piece

-- the account after a token
abbrev pub account_past : Account → Written → (next : List ℕ) → Account
account_past a w next = account_past_token (account_at a w next) w.piece next (w.token.tok)

-- Whether a token is written so: a separation stands before its piece, and the piece belongs to it.
abbrev pub IsWritten : Account → Written → (next : List ℕ) → (following : Option Tok) → Type 0
IsWritten a w next following =
    Holds (is_separation false w.separation (w.piece ++ next)) ×
    IsPiece (account_at a w next) w.piece next following (w.token.position) (w.token.tok)

-- Whether each token of a row is written so, before the text after the row and the token that is known to stand there.
abbrev pub IsRow : Account → List Written → (after : List ℕ) → (last : Option Tok) → Type 0
IsRow a [] after last = Unit {0}
IsRow a (w ∷ ws) after last = IsWritten a w (spelled ws after) (first_token ws last) × IsRow (account_past a w (spelled ws after)) ws after last

-- the account after a row
abbrev pub account_past_row : Account → List Written → (after : List ℕ) → Account
account_past_row a [] after = a
account_past_row a (w ∷ ws) after = account_past_row (account_past a w (spelled ws after)) ws after

-- the start of a stream
abbrev pub start_token : Position → Token
start_token p = record { position = p; tok = stream_start }

-- the end of a stream
abbrev pub end_token : Position → Token
end_token p = record { position = p; tok = stream_end }

-- Whether tokens are a cut of a text. They are the stream's start, a row of tokens, and the stream's end. The row and the separation after it are the text up to its end. Outside flow no block collection is left open.
pub record IsCut (tokens : List Token) (text : List ℕ) : Type 0 where
  pub begin : Position
  pub end : Position
  pub row : List Written
  pub separation : List ℕ
  pub are_tokens : tokens ≡ start_token begin ∷ (tokens_of row ++ (end_token end ∷ []))
  pub is_text : spelled row separation ≡ up_to_nul text
  pub is_filled : Holds (is_separation false separation [])
  pub is_row : IsRow first_account row separation (Some stream_end)
  pub closes : Holds (is_closed (account_past_row first_account row separation))

-- Whether tokens are the stream's start and a row of tokens whose text begins the text. What characters follow is known, but not what token.
pub record IsBegun (tokens : List Token) (text : List ℕ) : Type 0 where
  pub begin : Position
  pub row : List Written
  pub after : List ℕ
  pub are_tokens : tokens ≡ start_token begin ∷ tokens_of row
  pub is_text : spelled row after ≡ up_to_nul text
  pub is_row : IsRow first_account row after None

-- Whether tokens are a cut of a beginning of a text, without the stream's end.
abbrev pub IsCutOfBeginning : List Token → (text : List ℕ) → Type 0
IsCutOfBeginning tokens text = (tokens ≡ []) ⊎ IsBegun tokens text
