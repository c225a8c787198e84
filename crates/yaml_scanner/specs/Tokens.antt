-- All tokens so far, how many of them were handed out, and whether the stream's end is among all and among those.
use Rattle.std.specs.Prelude.{ℕ, ◌-◌, List, [], ◌∷◌, length, take, Bool, true, false, ◌||◌}
use Rattle.defs_text.specs.Position.{Position}
use Rattle.defs_token.specs.Token.{Token, Tok, Style}
use Rattle.model_scanner.specs.State.{token}

pub record Tokens : Type 0 where
  pub all : List Token
  pub given : ℕ
  pub ended : Bool
  pub over : Bool

-- the tokens that were handed out
abbrev pub handed : Tokens → List Token
handed q = take q.given q.all

-- how many wait
abbrev pub waiting : Tokens → ℕ
waiting q = length q.all - q.given

abbrev pub is_end : Tok → Bool
is_end Tok.stream_end = true
is_end _ = false

abbrev pub has_end : List Token → Bool
has_end [] = false
has_end (t ∷ ts) = is_end t.tok || has_end ts

-- the end of the stream, at a position
abbrev pub end_at : Position → Token
end_at p = record { position = p; tok = Tok.stream_end }

-- a key, which is a plain scalar with a text, and the `:` after it
abbrev pub key_tokens : Position → List ℕ → Position → List Token
key_tokens p text colon = token p Tok.key ∷ token p (Tok.scalar Style.plain text) ∷ token colon Tok.value ∷ []
