-- What clauses see of a text in memory.
use Rattle.std.specs.Prelude.{ℕ, List}
use Rattle.std.specs.Str.Iter.{chars_rest}
use Rattle.yaml_chars.specs.declared.characters.TextInMemory.{TextInMemory}

-- the bytes of the text that are still to come
abbrev pub text_rest : TextInMemory → List ℕ
text_rest s = chars_rest s.chars
