-- Short words for what a text is scanned as.
use Rattle.model_scanner.proofs.Common.{At, Err, Fault, List, Problem, Result, Tok, Token, token, ℕ}

-- a token at a position
abbrev pub at : (index line col : ℕ) → Tok → Token
at index line col t = token (record { index = index; line = line; col = col }) t

-- a fault at a position
abbrev pub fails : Problem → (index line col : ℕ) → Result (List Token) Fault
fails p index line col = Err (At p (record { index = index; line = line; col = col }))
