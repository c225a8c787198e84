-- Plain scalars (YAML 1.2, section 7.3.3): the exact model of their scan.
use Rattle.std.specs.Prelude.{ℕ, Bool, true, false, List, [], ◌∷◌, ◌==◌, ◌||◌, ◌&&◌, not, nat_lt, if◌then◌else◌, slice_index, Result, Ok, Err}
use Rattle.defs_text.specs.Position.{Position}
use Rattle.yaml_chars.specs.Class.{is_break, is_blank, is_blank_or_breakz, is_flow}
use Rattle.yaml_tokens.specs.declared.problem.Fault.{Fault}
use Rattle.yaml_tokens.specs.declared.problem.Fault.TheVariants.{At}
use Rattle.yaml_tokens.specs.declared.problem.Problem.TheVariants as problem
use Rattle.model_scanner.specs.declared.context.Context.{Context}
use Rattle.model_scanner.specs.Machine.{Turn, stop, fail, on, Stop, run, Read, and_then, past, past_break, is_cr_lf, at_marker}
use Rattle.model_scanner.specs.Folding.{Folded, nothing, with_char, with_blank, with_break, joined}

-- what stands next: a character of the text, one more of its line, a gap of blanks and breaks or what stands after one, or what stands after a TAB at the indentation's position
pub data Mode : Type 0 where
  first : Mode
  inside : Mode
  between : Mode
  tabs : Mode

pub record PlainState : Type 0 where
  pub mode : Mode
  pub position : Position
  pub folded : Folded

unfoldable pub can_be_plain : Bool → ℕ → ℕ → Bool
can_be_plain flow c d = (if c == 58 then not (is_blank_or_breakz d || (flow && is_flow d)) else not (flow && is_flow c))

-- a break; of CR LF the CR is passed first
abbrev pub at_break : ℕ → List ℕ → PlainState → PlainState
at_break c a s = (if is_cr_lf c a then record { mode = between; position = past s.position; folded = s.folded } else record { mode = between; position = past_break s.position; folded = with_break s.folded })

abbrev pub at_gap : Context → ℕ → List ℕ → PlainState → PlainState
at_gap ctx c a s =
    (if is_break c then at_break c a s else
    (if s.folded.leading && (c == 9) && nat_lt s.position.col ctx.indent then record { mode = tabs; position = past s.position; folded = s.folded } else
    record { mode = between; position = past s.position; folded = with_blank c s.folded }))

abbrev pub at_char : ℕ → Position → Folded → PlainState
at_char c p t = record { mode = inside; position = past p; folded = with_char c t }

-- whether a later line stands too far left
unfoldable pub is_shallow : Context → ℕ → Bool
is_shallow ctx col = not ctx.flow && nat_lt col ctx.indent

-- whether a dash stands here that no plain scalar may begin with
unfoldable pub at_dash : Bool → List ℕ → Bool
at_dash flow a = flow && (slice_index a 0 == 45) && is_flow (slice_index a 1)

-- whether a character stands here that may be one of a plain scalar
unfoldable pub at_plain : Bool → List ℕ → Bool
at_plain flow a = not (is_blank_or_breakz (slice_index a 0)) && can_be_plain flow (slice_index a 0) (slice_index a 1)

-- whether a scalar goes on at a character after a gap
unfoldable pub goes_on : Context → List ℕ → Position → Result Bool Fault
goes_on ctx a p =
    (if is_shallow ctx p.col then Ok false else
    (if (slice_index a 0 == 35) || at_marker p.col a then Ok false else
    (if at_dash ctx.flow a then Err (At problem.PlainDashInFlow p) else Ok (at_plain ctx.flow a))))

abbrev pub begun : Result Bool Fault → ℕ → PlainState → Turn PlainState Fault
begun (Ok true) c s = on (at_char c s.position (joined s.folded))
begun (Ok false) c s = stop s
begun (Err f) c s = fail f

abbrev pub turn_in : Context → Position → Mode → PlainState → ℕ → List ℕ → Turn PlainState Fault
turn_in ctx start first s c a = on (at_char c s.position (joined s.folded))
turn_in ctx start inside s c a = (if is_break c || is_blank c then on (at_gap ctx c a s) else (if can_be_plain ctx.flow c (slice_index a 0) then on (at_char c s.position s.folded) else stop s))
turn_in ctx start between s c a = (if is_break c || is_blank c then on (at_gap ctx c a s) else begun (goes_on ctx (c ∷ a) s.position) c s)
turn_in ctx start tabs s c a =
    (if is_break c then on (at_break c a s) else
    (if c == 35 then stop s else
    (if is_blank c then on (record { mode = tabs; position = past s.position; folded = s.folded }) else fail (At problem.PlainTab start))))

abbrev pub turn : Context → Position → PlainState → ℕ → List ℕ → Turn PlainState Fault
turn ctx start s c a = turn_in ctx start s.mode s c a

-- what a plain scalar is: its text, and whether it ended after a break
pub record Plain : Type 0 where
  pub text : List ℕ
  pub leading : Bool

abbrev pub ended : Result (Stop PlainState) Fault → Result (Read Plain) Fault
ended (Ok t) = Ok (record { rest = t.rest; position = t.state.position; value = record { text = t.state.folded.text; leading = t.state.folded.leading } })
ended (Err f) = Err f

-- the scan from a state on
abbrev pub plain_from : Context → Position → List ℕ → PlainState → Result (Read Plain) Fault
plain_from ctx start a s = ended (run (turn ctx start) a s)

-- whether a plain scalar may begin here
unfoldable pub starts : Context → List ℕ → Position → Result (Unit {0}) Fault
starts ctx a p =
    (if ctx.flow && nat_lt p.col ctx.indent then Err (At problem.FlowIndentation p) else
    (if at_dash ctx.flow a then Err (At problem.PlainDashInFlow p) else Ok tt))

-- the whole scan
unfoldable pub plain : Context → List ℕ → Position → Result (Read Plain) Fault
plain ctx a p = and_then (starts ctx a p) (λ _. plain_from ctx p a (record { mode = first; position = p; folded = nothing }))

-- whether a run of characters ends here
abbrev pub ends_run : Context → List ℕ → Bool
ends_run ctx [] = true
ends_run ctx (c ∷ a) = is_break c || is_blank c || not (can_be_plain ctx.flow c (slice_index a 0))

-- whether a gap ends here
abbrev pub ends_gap : List ℕ → Bool
ends_gap [] = true
ends_gap (c ∷ a) = not (is_break c || is_blank c)

-- whether the blanks after a TAB end here, and nothing but a break or a comment follows
abbrev pub ends_tabs : List ℕ → Bool
ends_tabs [] = true
ends_tabs (c ∷ a) = is_break c || (c == 35)
