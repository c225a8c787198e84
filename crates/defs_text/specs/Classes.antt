-- The classes of characters by which the parts of a YAML text are recognised.
-- YAML 1.2, sections 5.4 (breaks), 5.5 (white space), 5.6 (URI and tag characters), 5.3 (flow indicators), 6.9.2 (anchor names), 9.1.2 (document markers).
use Rattle.std.specs.Prelude.{ℕ, List, [], ◌∷◌, Bool, true, false, not, ◌&&◌, ◌||◌, ◌==◌, nat_le, codes}

-- U+0020
abbrev pub space : ℕ
space = 32

-- U+0009
abbrev pub tab : ℕ
tab = 9

-- U+000A; every break of a text is read as it
abbrev pub line_feed : ℕ
line_feed = 10

-- U+000D
abbrev pub carriage_return : ℕ
carriage_return = 13

-- U+005C
abbrev pub backslash : ℕ
backslash = 92

-- U+0022
abbrev pub double_quote : ℕ
double_quote = 34

-- U+0027
abbrev pub single_quote : ℕ
single_quote = 39

-- whether a character is one of a list
abbrev pub is_one_of : List ℕ → ℕ → Bool
is_one_of [] c = false
is_one_of (d ∷ ds) c = (c == d) || is_one_of ds c

-- whether a character's code lies between two others, both included
abbrev pub is_between : ℕ → ℕ → ℕ → Bool
is_between low high c = nat_le low c && nat_le c high

-- a space or a TAB
unfoldable pub is_blank : ℕ → Bool
is_blank c = (c == space) || (c == tab)

-- a line feed or a carriage return; the two in this order are one break
unfoldable pub is_break : ℕ → Bool
is_break c = (c == line_feed) || (c == carriage_return)

-- the character NUL, with which a text ends
unfoldable pub is_nul : ℕ → Bool
is_nul c = c == 0

-- a blank, a break, or NUL
unfoldable pub is_blank_or_end : ℕ → Bool
is_blank_or_end c = is_blank c || is_break c || is_nul c

-- one of the indicators of flow collections
unfoldable pub is_flow : ℕ → Bool
is_flow c = is_one_of (codes ",[]{}") c

-- 0 to 9
unfoldable pub is_decimal_digit : ℕ → Bool
is_decimal_digit c = is_between 48 57 c

-- A to Z, a to z
unfoldable pub is_letter : ℕ → Bool
is_letter c = is_between 65 90 c || is_between 97 122 c

-- the characters of a tag handle's name and of a directive's name
unfoldable pub is_alpha : ℕ → Bool
is_alpha c = is_decimal_digit c || is_letter c || is_one_of (codes "_-") c

-- the characters of a URI; `%` begins an escape
unfoldable pub is_uri : ℕ → Bool
is_uri c = is_decimal_digit c || is_letter c || is_one_of (codes "-#;/?:@&=+$,_.!~*'()[]%") c

-- the characters of a tag's suffix: those of a URI without `!` and the flow indicators
unfoldable pub is_tag : ℕ → Bool
is_tag c = is_uri c && not (is_flow c) && not (is_one_of (codes "!") c)

-- the characters of an anchor's name
unfoldable pub is_anchor_name : ℕ → Bool
is_anchor_name c = not (is_blank_or_end c) && not (c == 0xFEFF) && not (is_flow c)

-- whether a text stands at a blank, a break or its end
abbrev pub is_at_gap : List ℕ → Bool
is_at_gap [] = true
is_at_gap (c ∷ r) = is_blank_or_end c

-- whether a text stands at its end
abbrev pub is_at_end : List ℕ → Bool
is_at_end [] = true
is_at_end (c ∷ r) = is_nul c

-- whether three characters are those of a document marker
unfoldable pub are_marks : ℕ → ℕ → ℕ → Bool
are_marks a b c = ((a == 45) && (b == 45) && (c == 45)) || ((a == 46) && (b == 46) && (c == 46))

-- whether a text that stands in column 0 begins with a document marker: `---` or `...`, and a blank, a break or the end
abbrev pub is_document_marker : List ℕ → Bool
is_document_marker (a ∷ b ∷ c ∷ r) = are_marks a b c && is_at_gap r
is_document_marker _ = false
