-- A fault, shown with its line of the text: what is written for a text and the number of characters before the fault.
use Rattle.std.specs.Prelude.{ℕ, zero, suc, ◌-◌, List, [], ◌∷◌, ◌++◌, Bool, ◌||◌, ◌==◌, if◌then◌else◌, map, take, drop, length, codes, nat_le}
use Rattle.defs_text.specs.Classes.{tab, space, is_break, is_nul, is_between}
use Rattle.defs_text.specs.Breaks.{has_no_break}

-- the last line of a text: what stands after its last break
abbrev pub last_line : List ℕ → List ℕ
last_line [] = []
last_line (c ∷ r) = (if has_no_break (c ∷ r) then c ∷ r else last_line r)

-- Whether a character is not shown as it is: control characters but TAB, line and paragraph separators, those that turn the direction of a line, and the byte order mark.
abbrev pub is_hidden : ℕ → Bool
is_hidden c = nat_le c 8 || is_between 10 31 c || is_between 127 159 c || is_between 0x2028 0x202E c || is_between 0x2066 0x2069 c || (c == 0xFEFF)

-- the character that is shown for one of the text
abbrev pub visible : ℕ → ℕ
visible c = (if is_hidden c then 0xFFFD else c)

-- a line up to its end, but at most so many characters of it
abbrev pub shown_line : ℕ → List ℕ → List ℕ
shown_line n [] = []
shown_line zero (c ∷ r) = (if is_break c || is_nul c then [] else codes "...")
shown_line (suc n) (c ∷ r) = (if is_break c || is_nul c then [] else visible c ∷ shown_line n r)

-- what stands in the caret's line below a character
abbrev pub blank : ℕ → ℕ
blank c = (if c == tab then tab else space)

-- The line, and below it the caret: `mark` stands for what is left out before, `before` is shown before the fault, and `after` is the text from there on.
abbrev pub shown : (mark before after : List ℕ) → List ℕ
shown mark before after = mark ++ (shown_line 80 (before ++ after) ++ (10 ∷ (map blank mark ++ (map blank before ++ codes "^"))))

-- where `before` stands before the fault on its line: of more than 60 characters the last 40 are shown
abbrev pub excerpt_of_line : (before after : List ℕ) → List ℕ
excerpt_of_line before after = (if nat_le (length before) 60 then shown [] before after else shown (codes "...") (drop (length before - 40) before) after)

-- what is shown of a text for a fault after so many characters
abbrev pub excerpt : (text : List ℕ) → (index : ℕ) → List ℕ
excerpt text index = excerpt_of_line (last_line (take index text)) (drop index text)
