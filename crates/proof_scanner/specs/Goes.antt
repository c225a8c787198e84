-- What the scanner's model makes of a text that has a row.
use Rattle.std.specs.Prelude.{◌≡◌, ℕ, List, true}
use Rattle.defs_token.specs.Token.{Token}
use Rattle.defs_token.specs.Row.{IsRead}
use Rattle.model_scanner.specs.Run.{HasTokens}
use Rattle.defs_text.specs.Text.{has_no_nul}

-- what follows: a text without NUL that has a row has the row's tokens by the model, which so does not refuse it
abbrev pub IsComplete : Type 0
IsComplete = (text : List ℕ) (tokens : List Token) → has_no_nul text ≡ true → IsRead text tokens → HasTokens text tokens
