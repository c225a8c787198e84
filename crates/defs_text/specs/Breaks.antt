-- The lines of a text: LF, CR, and CR LF are one break each (YAML 1.2, section 5.4); and what may stand at a line's end (section 6.6, comments).
use Rattle.std.specs.Prelude.{ℕ, List, [], ◌∷◌, Bool, true, false, ◌&&◌, ◌||◌, not, ◌==◌}
use Rattle.defs_text.specs.Classes.{line_feed, carriage_return, is_blank, is_break, is_nul}

-- A text's lines, without their breaks: those with a break, and what stands after the last break.
pub record Split : Type 0 where
  pub complete : List (List ℕ)
  pub last : List ℕ

-- lines, given as the complete ones and the last, with one character more at their start
abbrev pub put_first : ℕ → List (List ℕ) → List ℕ → Split
put_first c [] last = record { complete = []; last = c ∷ last }
put_first c (l ∷ ls) last = record { complete = (c ∷ l) ∷ ls; last = last }

-- lines with one character more at their start
abbrev pub with_first : ℕ → Split → Split
with_first c s = put_first c s.complete s.last

-- lines with an empty line before them
abbrev pub with_empty_line : Split → Split
with_empty_line s = record { complete = [] ∷ s.complete; last = s.last }

-- whether a line feed that follows belongs to this carriage return
abbrev pub is_before_line_feed : ℕ → List ℕ → Bool
is_before_line_feed c [] = false
is_before_line_feed c (d ∷ r) = (c == carriage_return) && (d == line_feed)

-- What a character adds to the lines after it: a carriage return before a line feed adds nothing, a break an empty line, another character itself.
abbrev pub split_by : (is_break is_first_of_two : Bool) → ℕ → Split → Split
split_by true true c s = s
split_by true false c s = with_empty_line s
split_by false _ c s = with_first c s

-- the lines of a text
abbrev pub split : List ℕ → Split
split [] = record { complete = []; last = [] }
split (c ∷ r) = split_by (is_break c) (is_before_line_feed c r) c (split r)

-- Whether a comment would stand right here. A blank has to part a comment from what stands before it (section 6.6): so what may not be touched by a comment asks for this.
abbrev pub touches_comment : (next : List ℕ) → Bool
touches_comment [] = false
touches_comment (c ∷ r) = c == 35

-- whether a text is blanks and maybe a comment
abbrev pub is_blanks_and_comment : List ℕ → Bool
is_blanks_and_comment [] = true
is_blanks_and_comment (c ∷ r) = (c == 35) || (is_blank c && is_blanks_and_comment r)

-- whether nothing stands here up to the line's end but, after a blank, blanks and maybe a comment
abbrev pub is_rest_of_line : List ℕ → Bool
is_rest_of_line text = not (touches_comment text) && is_blanks_and_comment text

-- whether a line ends with this character: a break, but not the carriage return of CR LF
abbrev pub ends_line : ℕ → (next : List ℕ) → Bool
ends_line c next = is_break c && not (is_before_line_feed c next)

-- whether a text begins with a break, or is at its end
abbrev pub is_at_line_end : List ℕ → Bool
is_at_line_end [] = true
is_at_line_end (c ∷ r) = is_break c || is_nul c

-- whether a text is part of one line
abbrev pub has_no_break : List ℕ → Bool
has_no_break [] = true
has_no_break (c ∷ r) = not (is_break c) && has_no_break r
