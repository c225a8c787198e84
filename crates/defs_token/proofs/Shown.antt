-- Short words for rows of tokens.
use Prim.Native.String.{String}
use Rattle.defs_token.proofs.Common.{[], codes, end_token, List, plain, Position, scalar, start_token, Tok, Token, tokens_of, Written, ℕ, ◌++◌, ◌∷◌}

-- a position
abbrev pub position : (index line col : ℕ) → Position
position i l c = record { index = i; line = l; col = c }

-- a token with the separation before its piece, and its piece
abbrev pub written : (separation piece : List ℕ) → Position → Tok → Written
written f p at t = record { separation = f; piece = p; token = record { position = at; tok = t } }

-- a token without a piece
abbrev pub at : (index line col : ℕ) → Tok → Written
at i l c t = written [] [] (position i l c) t

-- a token with a separation and a piece that are written out
abbrev pub piece : (separation piece : String) → (index line col : ℕ) → Tok → Written
piece f p i l c t = written (codes f) (codes p) (position i l c) t

-- a plain scalar of one line
abbrev pub word : (separation text : String) → (index line col : ℕ) → Written
word f p i l c = piece f p i l c (scalar plain (codes p))

-- the position where a stream begins
abbrev pub first : Position
first = position 0 1 0

-- the tokens of a row between a stream's start and its end
abbrev pub tokens_between : List Written → (end : Position) → List Token
tokens_between ws end = start_token first ∷ (tokens_of ws ++ (end_token end ∷ []))
