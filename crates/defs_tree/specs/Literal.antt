-- Which texts may be written as literal blocks.
-- YAML 1.2, section 8.1.2 (literal style) and section 5.1 (printable characters).
use Rattle.std.specs.Prelude.{ℕ, Bool, true, false, not, ◌&&◌, ◌||◌, ◌==◌, nat_le, nat_eq, if◌then◌else◌, List, [], ◌∷◌, take, drop, codes}
use Rattle.std.specs.List.{list_any, list_all, starts_with, ends_with}
use Rattle.defs_tree.specs.Grammar.{is_among}
use Rattle.defs_tree.specs.Lines.{lines_of}

-- a code from the one to the other
abbrev pub is_within : ℕ → ℕ → ℕ → Bool
is_within low high c = nat_le low c && nat_le c high

-- a printable character that is neither CR nor the byte order mark: TAB, LF and all but the control characters and the surrogates
unfoldable pub is_literal_character : ℕ → Bool
is_literal_character c =
    (c == 9) || (c == 10) || is_within 32 126 c || (c == 133) || is_within 160 55295 c
    || (is_within 57344 65533 c && not (c == 65279))
    || is_within 65536 1114111 c

-- LF
abbrev pub is_line_feed : ℕ → Bool
is_line_feed c = c == 10

-- the first line that isn't empty starts with a space
abbrev pub first_full_line_is_indented : List (List ℕ) → Bool
first_full_line_is_indented [] = false
first_full_line_is_indented ([] ∷ ls) = first_full_line_is_indented ls
first_full_line_is_indented ((c ∷ cs) ∷ ls) = c == 32

-- a text that may be a literal block: it has a line feed, is made of fit characters, isn't line feeds alone, doesn't end in two of
-- them, and its first line that isn't empty doesn't start with a space
unfoldable pub is_literal_text : List ℕ → Bool
is_literal_text text =
    list_any is_line_feed text
    && list_all is_literal_character text
    && not (list_all is_line_feed text)
    && not (ends_with nat_eq text (codes "\n\n"))
    && not (first_full_line_is_indented (lines_of text))

-- a blank, or nothing at all
abbrev pub begins_blank : List ℕ → Bool
begins_blank [] = true
begins_blank (c ∷ cs) = (c == 32) || (c == 9)

-- a line that begins with `---` or `...` and goes on with a blank or ends there
abbrev pub begins_as_marker : List ℕ → Bool
begins_as_marker line = is_among (codes "---" ∷ codes "..." ∷ []) (take 3 line) && begins_blank (drop 3 line)

-- the first character is a TAB
abbrev pub starts_with_tab : List ℕ → Bool
starts_with_tab text = starts_with nat_eq text (codes "\t")

-- the same at the root, where the lines stand in column 0: also, the first line doesn't start with a TAB, and no line is read as a
-- document marker
unfoldable pub is_root_literal : List ℕ → Bool
is_root_literal text = is_literal_text text && not (starts_with_tab text) && not (list_any begins_as_marker (lines_of text))

-- the header: clipped where the text ends in a line feed, else stripped
abbrev pub literal_header : List ℕ → List ℕ
literal_header text = if ends_with nat_eq text (codes "\n") then codes "|" else codes "|-"
