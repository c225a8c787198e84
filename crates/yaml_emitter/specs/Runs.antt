-- Runs of a text that are written as they stand, between the characters that are escaped in double quotes.
use Rattle.std.specs.Prelude.{ℕ, ◌≡◌, ◌<◌, ◌-◌, ◌/◌, ◌^◌, length, Bool, false, not, ◌&&◌, ◌||◌, ◌==◌, if◌then◌else◌, nat_eq, nat_lt, nat_le, bit_and, List, ◌∷◌, ◌++◌}
use Rattle.std.specs.Str.{chars, IsUtf8}
use Rattle.defs_tree.specs.Escapes.{written_escapes}
use Rattle.yaml_emitter.specs.declared.runs.Bits.{Bits}

-- a quote, a backslash or a control character
abbrev pub is_escaped : ℕ → Bool
is_escaped c = (c == 34) || (c == 92) || nat_lt c 32 || (c == 127)

-- a byte that is neither LF nor TAB nor a printable character of ASCII
abbrev pub is_unprintable : ℕ → Bool
is_unprintable c = not ((c == 10) || (c == 9) || (nat_le 32 c && nat_le c 126))

-- a character of a set that is held as bits
abbrev pub has_bit : Bits → ℕ → Bool
has_bit bits c =
    if nat_lt c 64 then nat_eq (bit_and (bits.low / 2 ^ c) 1) 1
    else (if nat_lt c 128 then nat_eq (bit_and (bits.high / 2 ^ (c - 64)) 1) 1 else false)

-- a line feed
abbrev pub is_break : ℕ → Bool
is_break c = c == 10

-- no character that is escaped
abbrev pub stands : ℕ → Bool
stands c = not (is_escaped c)

-- the text is written as it stands
abbrev pub IsRun : List ℕ → Type 0
IsRun text = written_escapes text ≡ text

-- the bytes of a text that is cut at a character, after a run
pub record IsRunCut (text run : List ℕ) (c : ℕ) (back : List ℕ) : Type 0 where
  pub stands : IsRun (chars run)
  pub whole : chars text ≡ chars run ++ c ∷ chars back
  pub shorter : length back < length text
  pub utf8 : IsUtf8 back
