-- Texts and the tokens that the scanner's model gives them, but for the tokens' positions.
use Rattle.std.specs.Prelude.{◌≡◌, ℕ, List}
use Rattle.defs_token.specs.Token.{Tok, Token}
use Rattle.defs_token.specs.Toks.{toks}
use Rattle.model_scanner.specs.Run.{HasTokens}

-- the model gives the text these tokens, at some positions
abbrev pub HasToks : List ℕ → List Tok → Type 0
HasToks text want = (ts : List Token) × HasTokens text ts × (toks ts ≡ want)
