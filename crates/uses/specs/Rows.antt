-- Whether a text has tokens, by the definition of a row alone.
use Rattle.std.specs.Prelude.{◌≡◌, ℕ, List, Bool, true, false, Result, Ok, Err}
use Rattle.yaml_rust2.specs.ErrorReport.{ErrorReport}
use Rattle.yaml_rust2.specs.Row.{IsRead}
use Rattle.yaml_rust2.specs.Token.{Token}

-- What an answer says of a text: it has a row of tokens; or it has none; or memory was refused.
abbrev pub Tells : List ℕ → Result Bool ErrorReport → Type 0
Tells text (Ok true) = (tokens : List Token) × IsRead text tokens
Tells text (Ok false) = (tokens : List Token) → IsRead text tokens → ⊥
Tells text (Err fault) = fault.memory ≡ true
