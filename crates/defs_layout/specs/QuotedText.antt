-- Texts that are one quoted scalar with line feeds alone after it, and their tokens. YAML 1.2, sections 7.3.1 and 7.3.2.
use Rattle.std.specs.Prelude.{◌≡◌, ℕ, List, [], ◌∷◌, ◌++◌, Option, Some, replicate}
use Rattle.defs_token.specs.Token.{Tok, Style}
use Rattle.defs_text.specs.FlowScalar.{single_quoted_value, double_quoted_value}

-- the quotes that were written
pub data Quotes : Type 0 where
  single : Quotes
  double : Quotes

-- the quotes, what stands between them, and how many line feeds stand after
pub record QuotedText : Type 0 where
  pub quotes : Quotes
  pub body : List ℕ
  pub breaks : ℕ

abbrev pub quote_of : Quotes → ℕ
quote_of single = 39
quote_of double = 34

abbrev pub style_of : Quotes → Style
style_of single = Style.single_quoted
style_of double = Style.double_quoted

-- the text
abbrev pub spell : QuotedText → List ℕ
spell w = quote_of w.quotes ∷ (w.body ++ quote_of w.quotes ∷ replicate w.breaks 10)

-- the value of a body in these quotes, if it is one
abbrev pub body_value : Quotes → List ℕ → Option (List ℕ)
body_value single body = single_quoted_value body
body_value double body = double_quoted_value body

-- the text is one quoted scalar with this value
abbrev pub IsQuoted : List ℕ → List ℕ → Type 0
IsQuoted value text = (w : QuotedText) × (spell w ≡ text) × (body_value w.quotes w.body ≡ Some value)

-- the text is one quoted scalar, and its tokens are these
abbrev pub HasQuotedTokens : List ℕ → List Tok → Type 0
HasQuotedTokens text tokens =
    (w : QuotedText) × (value : List ℕ) × (spell w ≡ text) × (body_value w.quotes w.body ≡ Some value)
    × (tokens ≡ Tok.stream_start ∷ Tok.scalar (style_of w.quotes) value ∷ Tok.stream_end ∷ [])
