-- The classes of characters that the scanner tells apart (YAML 1.2, chapter 5). NUL stands for the end of the text.
use Rattle.std.specs.Prelude.{ℕ, Bool, ◌==◌, ◌||◌, ◌&&◌, not, nat_le}

-- b-char: a line break is LF, CR, or both in this order
unfoldable pub is_break : ℕ → Bool
is_break c = (c == 10) || (c == 13)

-- s-white
unfoldable pub is_blank : ℕ → Bool
is_blank c = (c == 32) || (c == 9)

abbrev pub is_breakz : ℕ → Bool
is_breakz c = is_break c || (c == 0)

abbrev pub is_blank_or_breakz : ℕ → Bool
is_blank_or_breakz c = is_blank c || is_breakz c

-- c-flow-indicator
unfoldable pub is_flow : ℕ → Bool
is_flow c = (c == 44) || (c == 91) || (c == 93) || (c == 123) || (c == 125)

abbrev pub is_between : ℕ → ℕ → ℕ → Bool
is_between a b c = nat_le a c && nat_le c b

unfoldable pub is_digit : ℕ → Bool
is_digit c = is_between 48 57 c

-- an ASCII letter or digit
unfoldable pub is_alphanumeric : ℕ → Bool
is_alphanumeric c = is_between 48 57 c || is_between 65 90 c || is_between 97 122 c

-- ns-word-char, and `_`
unfoldable pub is_alpha : ℕ → Bool
is_alpha c = is_alphanumeric c || (c == 95) || (c == 45)

-- ns-hex-digit
unfoldable pub is_hex : ℕ → Bool
is_hex c = is_between 48 57 c || is_between 65 70 c || is_between 97 102 c

-- one of `# ; / ? : @ & = + $ , _ . ! ~ * ' ( ) [ ] %`
unfoldable pub is_uri_mark : ℕ → Bool
is_uri_mark c =
    (c == 35) || (c == 59) || (c == 47) || (c == 63) || (c == 58) || (c == 64) || (c == 38) || (c == 61) || (c == 43) || (c == 36)
    || (c == 44) || (c == 95) || (c == 46) || (c == 33) || (c == 126) || (c == 42) || (c == 39) || (c == 40) || (c == 41) || (c == 91) || (c == 93) || (c == 37)

-- ns-uri-char
unfoldable pub is_uri : ℕ → Bool
is_uri c = is_alphanumeric c || (c == 45) || is_uri_mark c

-- ns-tag-char: a URI character, but for flow indicators and `!`
unfoldable pub is_tag : ℕ → Bool
is_tag c = is_uri c && not (is_flow c) && not (c == 33)

-- ns-anchor-char: all but blanks, breaks, the end, U+FEFF and flow indicators
unfoldable pub is_anchor : ℕ → Bool
is_anchor c = not (is_blank_or_breakz c) && not (c == 65279) && not (is_flow c)

-- a character that may stand in a literal block that is written
unfoldable pub is_literal_character : ℕ → Bool
is_literal_character c =
    (c == 9) || (c == 10) || is_between 32 126 c || (c == 133) || is_between 160 55295 c || (is_between 57344 65533 c && not (c == 65279)) || is_between 65536 1114111 c
