-- Gaps: the empty lines and comment lines that stand between the entries of a layout, and what may stand after its root.
-- YAML 1.2, sections 6.1 (indentation) and 6.6 (comments).
use Rattle.std.specs.Prelude.{◌≡◌, ℕ, zero, suc, List, [], ◌∷◌, ◌++◌, Bool, true, not, ◌||◌, ◌==◌}
use Rattle.std.specs.List.{list_all}
use Rattle.defs_layout.specs.Marks.{carriage_return, line_feed, number_sign, space}

-- so many spaces, before the rest r
abbrev pub spaces : ℕ → List ℕ → List ℕ
spaces zero r = r
spaces (suc n) r = space ∷ spaces n r

-- a character that may stand inside a line: not NUL, LF or CR
unfoldable pub is_line_character : ℕ → Bool
is_line_character c = not ((c == 0) || (c == line_feed) || (c == carriage_return))

-- a text within a line
abbrev pub IsLineText : List ℕ → Type 0
IsLineText text = list_all is_line_character text ≡ true

-- an empty line, or a comment line: `#` in column 0 and a text
pub data GapLine : Type 0 where
  empty_line : GapLine
  comment_line : (text : List ℕ) → GapLine

-- a line of a gap, before the rest r
abbrev pub spell_gap_line : GapLine → List ℕ → List ℕ
spell_gap_line empty_line r = r
spell_gap_line (comment_line text) r = number_sign ∷ (text ++ r)

-- a gap: lines, each ended by LF
abbrev pub spell_gap : List GapLine → List ℕ → List ℕ
spell_gap [] r = r
spell_gap (l ∷ g) r = spell_gap_line l (line_feed ∷ spell_gap g r)

-- LF, a gap, and so many spaces: what stands before the next entry and before a nested block
abbrev pub next_line : (column : ℕ) → List GapLine → List ℕ → List ℕ
next_line column g r = line_feed ∷ spell_gap g (spaces column r)

-- what may stand after a document's root: nothing, or LF and a gap whose last LF may be missing. So each line stands
-- after an LF, and the last may be empty.
abbrev pub spell_ending : List GapLine → List ℕ → List ℕ
spell_ending [] r = r
spell_ending (l ∷ g) r = line_feed ∷ spell_gap_line l (spell_ending g r)

-- a comment is a text within its line
abbrev pub IsGapLine : GapLine → Type 0
IsGapLine empty_line = Unit {0}
IsGapLine (comment_line text) = IsLineText text

-- each line of the gap is one
abbrev pub IsGap : List GapLine → Type 0
IsGap [] = Unit {0}
IsGap (l ∷ g) = IsGapLine l × IsGap g

-- empty lines alone
abbrev pub IsEmptyLine : GapLine → Type 0
IsEmptyLine empty_line = Unit {0}
IsEmptyLine (comment_line text) = ⊥

-- a gap without comment lines
abbrev pub AreEmptyLines : List GapLine → Type 0
AreEmptyLines [] = Unit {0}
AreEmptyLines (l ∷ g) = IsEmptyLine l × AreEmptyLines g
