-- How a text is written in double quotes.
-- YAML 1.2, section 5.7 (escaped characters). Only the escapes that a writer needs.
use Rattle.std.specs.Prelude.{ℕ, ◌+◌, ◌/◌, ◌%◌, ◌||◌, ◌==◌, nat_lt, if◌then◌else◌, List, [], ◌∷◌, ◌++◌, flat_map, codes}

-- the character of a hexadecimal digit, in lower case
abbrev pub hexadecimal_digit : ℕ → ℕ
hexadecimal_digit n = if nat_lt n 10 then 48 + n else 87 + n

-- a code below 256 as `\u00` and two digits
abbrev pub escaped_code : ℕ → List ℕ
escaped_code c = codes "\\u00" ++ hexadecimal_digit (c / 16) ∷ hexadecimal_digit (c % 16) ∷ []

-- a character as it is written: a quote, a backslash and the control characters by an escape, all else as it stands
unfoldable pub written_character : ℕ → List ℕ
written_character c =
    if c == 34 then codes "\\\""
    else (if c == 92 then codes "\\\\"
    else (if c == 8 then codes "\\b"
    else (if c == 9 then codes "\\t"
    else (if c == 10 then codes "\\n"
    else (if c == 12 then codes "\\f"
    else (if c == 13 then codes "\\r"
    else (if nat_lt c 32 || (c == 127) then escaped_code c
    else c ∷ [])))))))

-- the characters of a text as they are written, one after the other
abbrev pub written_escapes : List ℕ → List ℕ
written_escapes text = flat_map written_character text

-- the text in double quotes
abbrev pub double_quoted : List ℕ → List ℕ
double_quoted text = 34 ∷ written_escapes text ++ 34 ∷ []
