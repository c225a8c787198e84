-- White space of a JSON text, and where a TAB may stand in it: only among the blanks that begin a line.
-- RFC 8259, section 2; YAML 1.2, sections 6.1 (indentation) and 6.3 (separation in a flow collection's lines).
use Rattle.std.specs.Prelude.{◌≡◌, ℕ, List, [], ◌∷◌, Bool, true}

-- the four characters of white space
pub data Blank : Type 0 where
  space : Blank
  tab : Blank
  line_feed : Blank
  carriage_return : Blank

-- the character of each
abbrev pub blank_character : Blank → ℕ
blank_character space = 32
blank_character tab = 9
blank_character line_feed = 10
blank_character carriage_return = 13

-- the text, before the rest r
abbrev pub spell_gap : List Blank → List ℕ → List ℕ
spell_gap [] r = r
spell_gap (b ∷ g) r = blank_character b ∷ spell_gap g r

-- Between each tab and the beginning of its line only spaces and tabs stand. `at_beginning`: so it is before the gap's
-- first character, which is so at the text's start alone, since every other gap stands after a character of JSON.
abbrev pub TabsBeginLines : (at_beginning : Bool) → List Blank → Type 0
TabsBeginLines at_beginning [] = Unit {0}
TabsBeginLines at_beginning (space ∷ g) = TabsBeginLines at_beginning g
TabsBeginLines at_beginning (tab ∷ g) = (at_beginning ≡ true) × TabsBeginLines at_beginning g
TabsBeginLines at_beginning (line_feed ∷ g) = TabsBeginLines true g
TabsBeginLines at_beginning (carriage_return ∷ g) = TabsBeginLines true g
