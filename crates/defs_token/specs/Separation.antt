-- What stands between the pieces of tokens: blanks, breaks and comments. YAML 1.2, sections 6.1 to 6.7.
use Rattle.std.specs.Prelude.{ℕ, List, [], ◌∷◌, Bool, true, false, ◌&&◌, ◌||◌, ◌==◌, not, if◌then◌else◌}
use Rattle.defs_text.specs.Classes.{is_blank, is_break}
use Rattle.defs_text.specs.Breaks.{is_at_line_end}

-- Whether a text is blanks, breaks and comments; a comment goes from `#` up to a break or the text's end.
abbrev pub is_separation : (in_comment : Bool) → List ℕ → (next : List ℕ) → Bool
is_separation in_comment [] next = not in_comment || is_at_line_end next
is_separation true (c ∷ r) next = is_separation (not (is_break c)) r next
is_separation false (c ∷ r) next = (is_blank c || is_break c || (c == 35)) && is_separation (c == 35) r next

-- whether a text is blanks alone
abbrev pub is_blanks : List ℕ → Bool
is_blanks [] = true
is_blanks (c ∷ r) = is_blank c && is_blanks r

-- the text after the blanks, breaks and comments that it begins with
abbrev pub past_separation : (in_comment : Bool) → List ℕ → List ℕ
past_separation in_comment [] = []
past_separation true (c ∷ r) = past_separation (not (is_break c)) r
past_separation false (c ∷ r) = (if is_blank c || is_break c || (c == 35) then past_separation (c == 35) r else c ∷ r)
