-- Which kind of token was looked at.
use Rattle.std.specs.Prelude.{◌≡◌, ◌⊎◌, Option, Some, None}
use Rattle.yaml_tokens.specs.declared.token.Token.{Token}
use Rattle.yaml_tokens.specs.Shown.{tok_of}
use Rattle.model_parser.specs.declared.kind.Kind.{Kind}
use Rattle.model_parser.specs.declared.kind.Kind.TheVariants as kind
use Rattle.model_parser.specs.Kinds.{kind_of}

-- a token is there, of this kind
abbrev pub IsOfKind : Kind → Option Token → Type 0
IsOfKind k None = ⊥
IsOfKind k (Some t) = kind_of (tok_of t.1) ≡ k

-- an anchor or an alias is there
abbrev pub IsName : Option Token → Type 0
IsName o = IsOfKind kind.Alias o ⊎ IsOfKind kind.Anchor o
