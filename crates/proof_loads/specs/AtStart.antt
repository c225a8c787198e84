-- Parsers at the start of a text.
use Rattle.std.specs.Prelude.{◌≡◌, true, false, [], None}
use Rattle.yaml_parser.specs.Parsed.{Parsed}

-- A parser that has given nothing and keeps no fault, and whose setting counts for the whole stream. An event may have been looked at.
pub record IsAtStart (p : Parsed) : Type 0 where
  pub given : p.given ≡ []
  pub fault : p.fault ≡ None
  pub started : p.started ≡ false
  pub ended : p.ended ≡ false
  pub steady : p.steady ≡ true
