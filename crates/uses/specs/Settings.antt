-- What settings say, by their tree.
use Rattle.std.specs.Prelude.{ℕ, ℤ, List, Option, option_and_then}
use Rattle.yaml_rust2.specs.Node.{value_at_text, integer_of, text_of}
use Rattle.yaml_rust2.specs.Tree.{Tree}

-- the number at a key, where there is one
abbrev pub number_of : List ℕ → Tree → Option ℤ
number_of key t = option_and_then integer_of (value_at_text key t)

-- the text at a key, where there is one
abbrev pub word_of : List ℕ → Tree → Option (List ℕ)
word_of key t = option_and_then text_of (value_at_text key t)
