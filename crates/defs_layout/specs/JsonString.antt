-- JSON strings, as they are written: a list of pieces between quotation marks. RFC 8259, section 7.
use Rattle.std.specs.Prelude.{ℕ, ◌+◌, ◌*◌, List, [], ◌∷◌, Bool, true, not, ◌&&◌, ◌||◌}
use Rattle.std.specs.Char.{is_digit, digit_value}
use Rattle.std.specs.Int.{is_in_range}
use Rattle.defs_layout.specs.Marks.{backslash, double_quote, letter_u}

-- the characters that have a short escape
pub data Short : Type 0 where
  quotation_mark : Short
  reverse_solidus : Short
  solidus : Short
  backspace : Short
  form_feed : Short
  new_line : Short
  return : Short
  tabulator : Short

-- the letter after `\`
abbrev pub letter_of : Short → ℕ
letter_of quotation_mark = 34  -- `"`
letter_of reverse_solidus = 92  -- `\`
letter_of solidus = 47  -- `/`
letter_of backspace = 98  -- `b`
letter_of form_feed = 102  -- `f`
letter_of new_line = 110  -- `n`
letter_of return = 114  -- `r`
letter_of tabulator = 116  -- `t`

-- the character that a short escape stands for
abbrev pub character_of : Short → ℕ
character_of quotation_mark = 34  -- `"`
character_of reverse_solidus = 92  -- `\`
character_of solidus = 47  -- `/`
character_of backspace = 8  -- U+0008
character_of form_feed = 12  -- U+000C
character_of new_line = 10  -- LF
character_of return = 13  -- CR
character_of tabulator = 9  -- TAB

-- a character as it stands, a short escape, or `\u` and four hexadecimal digits
pub data Piece : Type 0 where
  itself : ℕ → Piece
  short : Short → Piece
  unicode : (a b c d : ℕ) → Piece

-- ---- the text, before the rest r

-- a character; `\` and a letter; `\u` and four digits
abbrev pub spell_piece : Piece → List ℕ → List ℕ
spell_piece (itself c) r = c ∷ r
spell_piece (short s) r = backslash ∷ letter_of s ∷ r
spell_piece (unicode a b c d) r = backslash ∷ letter_u ∷ a ∷ b ∷ c ∷ d ∷ r

-- one piece after the other
abbrev pub spell_pieces : List Piece → List ℕ → List ℕ
spell_pieces [] r = r
spell_pieces (p ∷ ps) r = spell_piece p (spell_pieces ps r)

-- the pieces between quotation marks
abbrev pub spell_string : List Piece → List ℕ → List ℕ
spell_string ps r = double_quote ∷ spell_pieces ps (double_quote ∷ r)

-- ---- the value

-- the number that four hexadecimal digits write
abbrev pub four_digits : ℕ → ℕ → ℕ → ℕ → ℕ
four_digits a b c d = digit_value a * 4096 + digit_value b * 256 + digit_value c * 16 + digit_value d

-- the character that a piece stands for
abbrev pub value_of : Piece → ℕ
value_of (itself c) = c
value_of (short s) = character_of s
value_of (unicode a b c d) = four_digits a b c d

-- the characters that a string stands for
abbrev pub unescaped : List Piece → List ℕ
unescaped [] = []
unescaped (p ∷ ps) = value_of p ∷ unescaped ps

-- ---- which are strings

-- U+0020 and what is above it, but `"` and `\`
unfoldable pub is_unescaped : ℕ → Bool
is_unescaped c = is_in_range 0x20 0x21 c || is_in_range 0x23 0x5B c || is_in_range 0x5D 0x10FFFF c

-- one of `0` to `9`, `A` to `F`, `a` to `f`
abbrev pub is_hex_digit : ℕ → Bool
is_hex_digit c = is_digit c 16

-- a half of a pair of UTF-16, and no character
abbrev pub is_surrogate : ℕ → Bool
is_surrogate c = is_in_range 0xD800 0xDFFF c

-- no surrogate is escaped
abbrev pub is_piece : Piece → Bool
is_piece (itself c) = is_unescaped c
is_piece (short s) = true
is_piece (unicode a b c d) =
    is_hex_digit a && is_hex_digit b && is_hex_digit c && is_hex_digit d && not (is_surrogate (four_digits a b c d))

-- each piece is one
abbrev pub are_pieces : List Piece → Bool
are_pieces [] = true
are_pieces (p ∷ ps) = is_piece p && are_pieces ps
