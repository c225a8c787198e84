-- Block scalars (YAML 1.2, section 8.1): the exact model.
use Rattle.std.specs.Prelude.{ℕ, zero, suc, ◌+◌, ◌-◌, max, Bool, true, false, List, [], ◌∷◌, ◌++◌, ◌==◌, ◌&&◌, not, nat_lt, nat_le, if◌then◌else◌, slice_index, Option, Some, None, Result, Ok, Err}
use Rattle.defs_text.specs.Position.{Position}
use Rattle.yaml_chars.specs.Class.{is_break, is_blank, is_digit}
use Rattle.defs_text.specs.Text.{is_empty}
use Rattle.yaml_tokens.specs.declared.problem.Fault.{Fault}
use Rattle.yaml_tokens.specs.declared.problem.Fault.TheVariants.{At}
use Rattle.yaml_tokens.specs.declared.problem.Problem.TheVariants as problem
use Rattle.yaml_tokens.specs.declared.token.Chomping.{Chomping}
use Rattle.yaml_tokens.specs.declared.token.Chomping.TheVariants.{Strip, Clip, Keep}
use Rattle.model_scanner.specs.declared.context.SkipTabs.TheVariants.{Yes}
use Rattle.model_scanner.specs.declared.context.Whitespace.{Whitespace}
use Rattle.model_scanner.specs.Machine.{Turn, stop, on, Stop, run, walk, Read, and_then, past, past_break, is_cr_lf, at_marker}
use Rattle.model_scanner.specs.Blanks.{space, linebreak}

-- the chomping and the indentation indicator, which is 0 where there is none
pub record Indicators : Type 0 where
  pub chomping : Chomping
  pub increment : ℕ

-- a header: its indicators, and whether a break ended it
pub record Header : Type 0 where
  pub indicators : Indicators
  pub broken : Bool

-- a chomping indicator, if one stands here
unfoldable pub chomping : List ℕ → Position → Read Chomping
chomping [] p = record { rest = []; position = p; value = Clip }
chomping (c ∷ a) p = (if c == 43 then record { rest = a; position = past p; value = Keep } else (if c == 45 then record { rest = a; position = past p; value = Strip } else record { rest = c ∷ a; position = p; value = Clip }))

-- an indentation indicator, if one stands here
unfoldable pub increment : Position → List ℕ → Position → Result (Read ℕ) Fault
increment start [] p = Ok (record { rest = []; position = p; value = 0 })
increment start (c ∷ a) p = (if is_digit c then (if c == 48 then Err (At problem.BlockScalarZero start) else Ok (record { rest = a; position = past p; value = c - 48 })) else Ok (record { rest = c ∷ a; position = p; value = 0 }))

abbrev pub with_chomping : ℕ → Read Chomping → Read Indicators
with_chomping n r = record { rest = r.rest; position = r.position; value = record { chomping = r.value; increment = n } }

-- a chomping indicator may also stand after the other
abbrev pub late_chomping : Chomping → Read ℕ → Read Indicators
late_chomping Clip n = with_chomping n.value (chomping n.rest n.position)
late_chomping Strip n = record { rest = n.rest; position = n.position; value = record { chomping = Strip; increment = n.value } }
late_chomping Keep n = record { rest = n.rest; position = n.position; value = record { chomping = Keep; increment = n.value } }

abbrev pub after_chomping : Position → Read Chomping → Result (Read Indicators) Fault
after_chomping start r = and_then (increment start r.rest r.position) (λ n. Ok (late_chomping r.value n))

unfoldable pub indicators : Position → List ℕ → Position → Result (Read Indicators) Fault
indicators start a p = after_chomping start (chomping a p)

abbrev pub no_tab : Position → Read (Unit {0}) → Result (Read Bool) Fault
no_tab start r = (if slice_index r.rest 0 == 9 then Err (At problem.BlockScalarTab start) else Ok (record { rest = r.rest; position = r.position; value = true }))

-- the break after a header, or the end
unfoldable pub header_break : Position → List ℕ → Position → Result (Read Bool) Fault
header_break start [] p = Ok (record { rest = []; position = p; value = false })
header_break start (c ∷ a) p = (if is_break c then no_tab start (linebreak (c ∷ a) p) else Err (At problem.BlockScalarHeader start))

-- the rest of a header's line
unfoldable pub header_end : Position → List ℕ → Position → Result (Read Bool) Fault
header_end start a p = and_then (space Yes a p) (λ (w : Read Whitespace). header_break start w.rest w.position)

abbrev pub with_indicators : Indicators → Read Bool → Read Header
with_indicators i r = record { rest = r.rest; position = r.position; value = record { indicators = i; broken = r.value } }

-- the header after the `|` or `>`
unfoldable pub header : Position → List ℕ → Position → Result (Read Header) Fault
header start a p = and_then (indicators start a p) (λ (i : Read Indicators). and_then (header_end start i.rest i.position) (λ r. Ok (with_indicators i.value r)))

-- where content stands, and the breaks of the empty lines before it
pub record Column : Type 0 where
  pub column : ℕ
  pub breaks : List ℕ

-- the most spaces that a line began with so far, those of this line, the position, and the breaks of the empty lines
pub record First : Type 0 where
  pub most : ℕ
  pub spaces : ℕ
  pub position : Position
  pub breaks : List ℕ

-- a space or a break before the first line that is not empty
abbrev pub first_step : First → ℕ → List ℕ → Option First
first_step s c a =
    (if c == 32 then Some (record s { spaces = s.position.col + 1; position = past s.position }) else
    (if is_break c then (if is_cr_lf c a then Some (record s { position = past s.position }) else Some (record { most = max s.most s.spaces; spaces = 0; position = past_break s.position; breaks = s.breaks ++ 10 ∷ [] })) else
    None))

abbrev pub first_column : Stop First → Read Column
first_column t = record { rest = t.rest; position = t.state.position; value = record { column = max t.state.most t.state.spaces; breaks = t.state.breaks } }

abbrev pub first_indent : List ℕ → First → Read Column
first_indent a s = first_column (walk first_step a s)

-- the position in front of a content line, and the breaks of the empty lines
pub record Margin : Type 0 where
  pub position : Position
  pub breaks : List ℕ

-- a space before a column, or a break
abbrev pub margin_step : ℕ → Margin → ℕ → List ℕ → Option Margin
margin_step column s c a =
    (if (c == 32) && nat_lt s.position.col column then Some (record { position = past s.position; breaks = s.breaks }) else
    (if is_break c then (if is_cr_lf c a then Some (record { position = past s.position; breaks = s.breaks }) else Some (record { position = past_break s.position; breaks = s.breaks ++ 10 ∷ [] })) else
    None))

abbrev pub margin_column : ℕ → Stop Margin → Read Column
margin_column column t = record { rest = t.rest; position = t.state.position; value = record { column = column; breaks = t.state.breaks } }

abbrev pub indent_from : ℕ → List ℕ → Margin → Read Column
indent_from column a s = margin_column column (walk (margin_step column) a s)

abbrev pub at_least : ℕ → Read Column → Read Column
at_least indent r = record { rest = r.rest; position = r.position; value = record { column = max r.value.column indent; breaks = r.value.breaks } }

-- the first line that is not empty, and the column where content stands: at least one more than that of the innermost block collection
unfoldable pub content : (indent increment : ℕ) → List ℕ → Position → Read Column
content indent zero a p = at_least indent (first_indent a (record { most = 0; spaces = 0; position = p; breaks = [] }))
content indent (suc n) a p = indent_from ((indent - 1) + suc n) a (record { position = p; breaks = [] })

-- the text up to the last content line, the breaks after that line's own, whether it has one, and whether it starts with a blank
pub record Lines : Type 0 where
  pub text : List ℕ
  pub breaks : List ℕ
  pub broken : Bool
  pub blank : Bool

-- what stands next: indentation or a content line's beginning, or one more character of that line
pub data Mode : Type 0 where
  margin : Mode
  line : Mode

pub record BlockState : Type 0 where
  pub mode : Mode
  pub position : Position
  pub lines : Lines

abbrev pub lf_if : Bool → List ℕ
lf_if b = (if b then 10 ∷ [] else [])

-- what stands between two content lines
unfoldable pub between : Bool → Lines → Bool → List ℕ
between literal l blank = (if not literal && l.broken && not l.blank && not blank then (if is_empty l.breaks then 32 ∷ [] else l.breaks) else lf_if l.broken ++ l.breaks)

abbrev pub begun : Bool → ℕ → Lines → Lines
begun literal c l = record { text = l.text ++ between literal l (is_blank c); breaks = []; broken = false; blank = is_blank c }

abbrev pub with_char : ℕ → Lines → Lines
with_char c l = record l { text = l.text ++ c ∷ [] }

-- whether a content line begins here
unfoldable pub begins : ℕ → ℕ → List ℕ → Bool
begins column col [] = false
begins column col (c ∷ a) = (col == column) && not (at_marker col (c ∷ a))

abbrev pub turn_in : Bool → ℕ → Mode → BlockState → ℕ → List ℕ → Turn BlockState Fault
turn_in literal column margin s c a =
    (if (c == 32) && nat_lt s.position.col column then on (record { mode = margin; position = past s.position; lines = s.lines }) else
    (if is_break c then (if is_cr_lf c a then on (record { mode = margin; position = past s.position; lines = s.lines }) else on (record { mode = margin; position = past_break s.position; lines = record (s.lines) { breaks = s.lines.breaks ++ 10 ∷ [] } })) else
    (if begins column s.position.col (c ∷ a) then on (record { mode = line; position = past s.position; lines = with_char c (begun literal c s.lines) }) else stop s)))
turn_in literal column line s c a =
    (if is_break c then (if is_cr_lf c a then on (record { mode = line; position = past s.position; lines = s.lines }) else on (record { mode = margin; position = past_break s.position; lines = record (s.lines) { broken = true } })) else
    on (record { mode = line; position = past s.position; lines = with_char c s.lines }))

abbrev pub turn : Bool → ℕ → BlockState → ℕ → List ℕ → Turn BlockState Fault
turn literal column s c a = turn_in literal column s.mode s c a

abbrev pub ended : Result (Stop BlockState) Fault → Result (Read Lines) Fault
ended (Ok t) = Ok (record { rest = t.rest; position = t.state.position; value = t.state.lines })
ended (Err f) = Err f

-- the scan of the lines from a state on
abbrev pub lines_from : Bool → ℕ → List ℕ → BlockState → Result (Read Lines) Fault
lines_from literal column a s = ended (run (turn literal column) a s)

-- the tail by its chomping; the flag says that the text ends in a line that has no break
unfoldable pub tail : Chomping → Bool → Lines → List ℕ
tail Strip unbroken l = []
tail Clip unbroken l = lf_if l.broken ++ lf_if unbroken
tail Keep unbroken l = lf_if l.broken ++ lf_if unbroken ++ l.breaks

-- whether the text ends here in a line that reaches the content column, and column 1
abbrev pub is_open : ℕ → List ℕ → ℕ → Bool
is_open column a col = is_empty a && nat_le column col && nat_lt 0 col

-- whether indentation and empty lines end here
unfoldable pub ends_indent : ℕ → ℕ → List ℕ → Bool
ends_indent column col [] = true
ends_indent column col (c ∷ a) = not (is_break c) && not ((c == 32) && nat_lt col column)

-- the text of a scalar without a content line at the end of the text, from the breaks of its empty lines
unfoldable pub empty_text : Chomping → Bool → List ℕ → List ℕ
empty_text Strip broken t = []
empty_text Clip broken t = lf_if broken
empty_text Keep broken t = (if broken then (if is_empty t then 10 ∷ [] else t) else [])

-- a block scalar: its token's position and its text
pub record Block : Type 0 where
  pub position : Position
  pub text : List ℕ

abbrev pub chomped : Chomping → ℕ → Position → Read Lines → Read Block
chomped c column start r = record { rest = r.rest; position = r.position; value = record { position = start; text = r.value.text ++ tail c (is_open column r.rest r.position.col) r.value } }

abbrev pub body : Bool → ℕ → Chomping → Read Column → Result (Read Block) Fault
body literal indent c r =
    (if nat_lt r.position.col r.value.column && nat_le indent r.position.col then Err (At problem.BlockScalarIndentation r.position) else
    and_then (lines_from literal r.value.column r.rest (record { mode = margin; position = r.position; lines = record { text = []; breaks = r.value.breaks; broken = false; blank = false } }))
    (λ l. Ok (chomped c r.value.column r.position l)))

abbrev pub after_header : Bool → ℕ → Position → Header → Read Column → Result (Read Block) Fault
after_header literal indent start h r =
    (if is_empty r.rest then Ok (record { rest = r.rest; position = r.position; value = record { position = start; text = empty_text h.indicators.chomping h.broken r.value.breaks } }) else body literal indent h.indicators.chomping r)

-- the whole scan, from the `|` or `>` on
unfoldable pub block : Bool → ℕ → List ℕ → Position → Result (Read Block) Fault
block literal indent [] p = Err (At problem.BlockScalarHeader p)
block literal indent (c ∷ a) p = and_then (header p a (past p)) (λ (h : Read Header). after_header literal indent p h.value (content indent h.value.indicators.increment h.rest h.position))
