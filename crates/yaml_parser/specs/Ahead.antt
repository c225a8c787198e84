-- The tokens of a parser: those taken, one that was looked at, and those to come.
use Rattle.std.specs.Prelude.{◌≡◌, ℕ, ◌+◌, [], ◌∷◌, ◌++◌, Option, Some, None, IfSome}
use Rattle.yaml_tokens.specs.Shown.{shown}
use Rattle.yaml_tokens.specs.declared.token.Token.{Token}
use Rattle.yaml_tokens.specs.declared.token.TokenType.{TokenType}
use Rattle.yaml_tokens.specs.declared.token.TokenType.TheVariants as token
use Rattle.yaml_tokens.specs.declared.token.TScalarStyle.TheVariants.{Plain}
use Rattle.yaml_scanner.specs.Scanned.{scanned, HandsBoth}
use Rattle.yaml_scanner.specs.declared.key_value.PlainNode.{PlainNode}
use Rattle.yaml_parser.specs.declared.tokens.Tokens.{Tokens}

-- one where it was looked at
abbrev pub peeked_count : Option Token → ℕ
peeked_count None = 0
peeked_count (Some t) = 1

-- a bound on the tokens that may still be taken
abbrev pub left : {T : Type 0} → Tokens T → ℕ
left p = (scanned p.scanner).left + peeked_count p.peeked

-- The token that was looked at is taken.
pub record Skips {T : Type 0} (old : Tokens T) (t : Token) (new : Tokens T) : Type 0 where
  pub peeked : new.peeked ≡ None
  pub taken : new.taken.items ≡ old.taken.items ++ t ∷ []
  pub scanner : new.scanner ≡ old.scanner

-- The token that was looked at is taken, and of the text and its other tokens nothing changes.
pub record SkipsOne {T : Type 0} (old new : Tokens T) : Type 0 where
  pub token : IfSome old.peeked (λ t. Skips old t new)
  pub start : new.scanner.start ≡ old.scanner.start
  pub left : left new + 1 ≡ left old

-- the token before a plain scalar, and that of the scalar
abbrev pub indicator_of : TokenType → PlainNode → Token
indicator_of kind n = (n.indicator, kind)

abbrev pub scalar_of : PlainNode → Token
scalar_of n = (n.mark, token.Scalar Plain n.text)

-- Nothing was looked at, and a token of this kind and the plain scalar after it are taken.
pub record TakesBoth {T : Type 0} (old : Tokens T) (kind : TokenType) (n : PlainNode) (new : Tokens T) : Type 0 where
  pub none : old.peeked ≡ None
  pub peeked : new.peeked ≡ None
  pub taken : new.taken.items ≡ old.taken.items ++ indicator_of kind n ∷ scalar_of n ∷ []
  pub hands : HandsBoth (scanned old.scanner) (shown (indicator_of kind n)) (shown (scalar_of n)) (scanned new.scanner)
  pub start : new.scanner.start ≡ old.scanner.start
