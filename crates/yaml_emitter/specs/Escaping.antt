-- What is shown in double quotes, and the cases of the code that writes escapes.
use Rattle.std.specs.Prelude.{ℕ, ◌||◌, ◌==◌, nat_lt, if◌then◌else◌, List, [], ◌∷◌}
use Rattle.defs_tree.specs.Escapes.{escaped_code}
use Rattle.yaml_emitter.specs.declared.escape.DoubleQuoted.{DoubleQuoted}

-- the bytes of the text that is shown in double quotes
abbrev pub inner_text : DoubleQuoted → List ℕ
inner_text quoted = quoted.0.now

-- a character that has no escape of its own: a control character by its code, all else as it stands
abbrev pub written_code : ℕ → List ℕ
written_code c = if nat_lt c 32 || (c == 127) then escaped_code c else c ∷ []
