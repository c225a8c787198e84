-- The tests of the code that writes literal blocks.
use Rattle.std.specs.Prelude.{ℕ, ◌≡◌, ◌<◌, length, Bool, false, not, ◌&&◌, ◌==◌, bytes_eq, if◌then◌else◌, List, [], ◌∷◌, ◌++◌, take, drop}
use Rattle.std.specs.List.{list_any, list_all}
use Rattle.std.specs.Str.{chars, IsUtf8, NonePass}
use Rattle.defs_tree.specs.Literal.{is_literal_character, is_line_feed, begins_blank}
use Rattle.yaml_emitter.specs.At.{new_line}

-- the first character that is no line feed is there, and is no space
abbrev pub begins_well : List ℕ → Bool
begins_well [] = false
begins_well (c ∷ cs) = if c == 10 then begins_well cs else not (c == 32)

-- fit characters alone, and a first full line that doesn't start with a space
abbrev pub is_clear : List ℕ → Bool
is_clear text = list_all is_literal_character text && begins_well text

-- the same, and a line feed
abbrev pub has_clear_lines : List ℕ → Bool
has_clear_lines text = list_any is_line_feed text && is_clear text

-- the line begins with the mark, of three characters, and goes on with a blank or ends there
abbrev pub begins_with_mark : List ℕ → List ℕ → Bool
begins_with_mark mark line = bytes_eq mark (take 3 line) && begins_blank (drop 3 line)

-- a text without a line feed on a new line, where it isn't empty
abbrev pub last_line : ℕ → List ℕ → List ℕ
last_line level [] = []
last_line level (c ∷ cs) = new_line level ++ c ∷ cs

-- no line feed is in the text
abbrev pub IsUnbroken : List ℕ → Type 0
IsUnbroken text = NonePass (λ d. d == 10) text

-- the bytes of a text that is cut at its first line feed
pub record IsFirstCut (text front back : List ℕ) : Type 0 where
  pub none_before : IsUnbroken (chars front)
  pub whole : chars text ≡ chars front ++ 10 ∷ chars back
  pub shorter : length back < length text
  pub utf8 : IsUtf8 back
