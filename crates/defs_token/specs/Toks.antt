-- Tokens without their positions.
use Rattle.std.specs.Prelude.{List, map}
use Rattle.defs_token.specs.Token.{Tok, Token}

-- what stands at each of the positions
abbrev pub toks : List Token → List Tok
toks ts = map (λ t. t.tok) ts
