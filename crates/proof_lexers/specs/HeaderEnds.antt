-- How the scan of a block scalar's header ends, told by the rest of its line after `|` or `>`. YAML 1.2, section 8.1.1.
use Rattle.std.specs.Prelude.{◌≡◌, ℕ, List, [], ◌∷◌, ◌++◌, Bool, true, false, ◌&&◌, ◌||◌, ◌==◌, not, if◌then◌else◌, Option, Some, None}
use Rattle.std.specs.List.{list_all}
use Rattle.defs_text.specs.Position.{Position}
use Rattle.defs_text.specs.Text.{is_empty}
use Rattle.defs_text.specs.Breaks.{is_rest_of_line}
use Rattle.defs_text.specs.Classes.{tab, is_break, is_between}
use Rattle.defs_text.specs.FlowScalar.{begins_with}
use Rattle.defs_text.specs.BlockScalar as defs
use Rattle.defs_text.specs.BlockScalar.{BlockStyle, literal, folded, strip, clip, keep, sign_of, digit_of, header_of}
use Rattle.yaml_tokens.specs.declared.problem.Fault.{Fault}
use Rattle.yaml_tokens.specs.declared.problem.Fault.TheVariants.{At}
use Rattle.yaml_tokens.specs.declared.problem.Problem.TheVariants as problem
use Rattle.yaml_tokens.specs.declared.token.Chomping.{Chomping}
use Rattle.yaml_tokens.specs.declared.token.Chomping.TheVariants.{Strip, Clip, Keep}
use Rattle.model_scanner.specs.Machine.{Read, past}
use Rattle.model_scanner.specs.Blanks.{linebreak}
use Rattle.model_scanner.specs.BlockScalar.{Indicators, Header}

-- the character that begins a block scalar
abbrev pub indicator_of : BlockStyle → ℕ
indicator_of literal = 124
indicator_of folded = 62

-- a chomping as the scanner names it
abbrev pub chomping_of : defs.Chomping → Chomping
chomping_of strip = Strip
chomping_of clip = Clip
chomping_of keep = Keep

-- a header's digit; 0 where it has none
abbrev pub digit_or_zero : Option ℕ → ℕ
digit_or_zero None = 0
digit_or_zero (Some d) = d

-- a header's indicators as the scanner keeps them
abbrev pub indicators_of : defs.Header → Indicators
indicators_of h = record { chomping = chomping_of h.chomping; increment = digit_or_zero h.digit }

-- whether no character of a text is a break
abbrev pub is_in_line : List ℕ → Bool
is_in_line w = list_all (λ c. not (is_break c)) w

-- whether a text is at its end or begins with a break
abbrev pub ends_line : List ℕ → Bool
ends_line [] = true
ends_line (c ∷ r) = is_break c

-- the position after characters of a line
abbrev pub along : List ℕ → Position → Position
along [] p = p
along (c ∷ w) p = along w (past p)

-- a header read at a line's end: before the next line, or at the end of the text
abbrev pub read_header : defs.Header → (after : List ℕ) → Position → Read Header
read_header h r p = record { rest = (linebreak r p).rest; position = (linebreak r p).position; value = record { indicators = indicators_of h; broken = not (is_empty r) } }

-- whether a character is a sign of chomping
abbrev pub is_sign : ℕ → Bool
is_sign c = (c == 43) || (c == 45)

-- whether `0` stands where a header's digit may
abbrev pub has_zero : List ℕ → Bool
has_zero [] = false
has_zero (c ∷ r) = (c == 48) || (is_sign c && begins_with 48 r)

-- a text after its first character, where that is of a class
abbrev pub past_one : (ℕ → Bool) → List ℕ → List ℕ
past_one class [] = []
past_one class (c ∷ r) = (if class c then r else c ∷ r)

-- a header's line after its indicators: a sign and a digit in either order
abbrev pub past_indicators : List ℕ → List ℕ
past_indicators [] = []
past_indicators (c ∷ r) = (if is_sign c then past_one (is_between 49 57) r else (if is_between 49 57 c then past_one is_sign r else c ∷ r))

-- What is read of a line after the `|` or `>` at `start`, which ends before the text `after`: the header that it is, if no TAB begins the next line.
pub data IsHeaderRead (start : Position) (style : BlockStyle) (line after : List ℕ) : Read Header → Type 0 where
  whole_header : (h : defs.Header) → header_of (indicator_of style ∷ line) ≡ Some h → begins_with tab (linebreak after start).rest ≡ false → IsHeaderRead start style line after (read_header h after (along line (past start)))

-- Why it is refused: a TAB begins the next line; or the line is no header, for a digit 0, a comment right after a header, or other text.
pub data IsHeaderRefusal (start : Position) (style : BlockStyle) (line after : List ℕ) : Fault → Type 0 where
  tabbed : (h : defs.Header) → header_of (indicator_of style ∷ line) ≡ Some h → begins_with tab (linebreak after start).rest ≡ true → IsHeaderRefusal start style line after (At problem.BlockScalarTab start)
  zero_digit : header_of (indicator_of style ∷ line) ≡ None → has_zero line ≡ true → IsHeaderRefusal start style line after (At problem.BlockScalarZero start)
  comment : (h : defs.Header) (before text : List ℕ) → header_of (indicator_of style ∷ line) ≡ None → header_of (indicator_of style ∷ before) ≡ Some h → line ≡ before ++ 35 ∷ text
      → IsHeaderRefusal start style line after (At problem.CommentNotSeparated (along before (past start)))
  no_header : header_of (indicator_of style ∷ line) ≡ None → has_zero line ≡ false → is_rest_of_line (past_indicators line) ≡ false → begins_with 35 (past_indicators line) ≡ false → IsHeaderRefusal start style line after (At problem.BlockScalarHeader start)
