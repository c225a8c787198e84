-- Quoted scalars (YAML 1.2, sections 7.3.1 and 7.3.2): the exact model of their scan.
use Rattle.std.specs.Prelude.{ℕ, zero, suc, ◌+◌, ◌*◌, Bool, List, [], ◌∷◌, ◌==◌, ◌||◌, ◌&&◌, not, nat_lt, nat_le, if◌then◌else◌, slice_index, Result, Ok, Err}
use Rattle.std.specs.Char.{digit_value}
use Rattle.defs_text.specs.Position.{Position}
use Rattle.yaml_chars.specs.Class.{is_break, is_blank, is_hex}
use Rattle.yaml_tokens.specs.declared.problem.Fault.{Fault}
use Rattle.yaml_tokens.specs.declared.problem.Fault.TheVariants.{At}
use Rattle.yaml_tokens.specs.declared.problem.Problem.TheVariants as problem
use Rattle.model_scanner.specs.declared.context.Context.{Context}
use Rattle.model_scanner.specs.declared.kind.Digits.{Digits}
use Rattle.model_scanner.specs.declared.kind.Digits.TheVariants.{Two, Four, Eight}
use Rattle.model_scanner.specs.declared.kind.Escape.{Escape}
use Rattle.model_scanner.specs.declared.kind.Escape.TheVariants.{Char, Code, Unknown}
use Rattle.model_scanner.specs.declared.kind.QuotedPart.{QuotedPart}
use Rattle.model_scanner.specs.declared.kind.QuotedPart.TheVariants as part
use Rattle.model_scanner.specs.Machine.{Turn, stop, fail, on, Stop, run, Read, past, past_break, is_cr_lf, at_marker}
use Rattle.model_scanner.specs.Folding.{Folded, nothing, with_char, with_blank, with_break, with_escaped_break, joined}

-- What stands next: a part of the scalar; what is named after a backslash; or a code's digits, one and so many more, after the value of those before. The code reads an escape whole, so it has the parts alone.
pub data Mode : Type 0 where
  at_part : QuotedPart → Mode
  named : Mode
  digits : (more value : ℕ) → Mode

abbrev pub first : Mode
first = at_part part.First

abbrev pub inside : Mode
inside = at_part part.Inside

abbrev pub gap : Mode
gap = at_part part.Gap

abbrev pub breaking : Mode
breaking = at_part part.Breaking

abbrev pub after : Mode
after = at_part part.After

abbrev pub doubled : Mode
doubled = at_part part.Doubled

abbrev pub closed : Mode
closed = at_part part.Closed

pub record QuotedState : Type 0 where
  pub mode : Mode
  pub position : Position
  pub folded : Folded

abbrev pub quote_of : Bool → ℕ
quote_of single = (if single then 39 else 34)

-- how many digits a code has after the first
abbrev pub more_of : Digits → ℕ
more_of Two = 1
more_of Four = 3
more_of Eight = 7

-- how many digits a code has
abbrev pub count_of : Digits → ℕ
count_of k = suc (more_of k)

-- what a character after a backslash is
unfoldable pub escape_of : ℕ → Escape
escape_of c =
    (if c == 48 then Char 0 else
    (if c == 97 then Char 7 else
    (if c == 98 then Char 8 else
    (if (c == 116) || (c == 9) then Char 9 else
    (if c == 110 then Char 10 else
    (if c == 118 then Char 11 else
    (if c == 102 then Char 12 else
    (if c == 114 then Char 13 else
    (if c == 101 then Char 27 else
    (if (c == 32) || (c == 34) || (c == 47) || (c == 92) then Char c else
    (if c == 78 then Char 133 else
    (if c == 95 then Char 160 else
    (if c == 76 then Char 8232 else
    (if c == 80 then Char 8233 else
    (if c == 120 then Code Two else
    (if c == 117 then Code Four else
    (if c == 85 then Code Eight else Unknown)))))))))))))))))

-- whether a code is a character's
unfoldable pub is_scalar : ℕ → Bool
is_scalar c = nat_lt c 55296 || (nat_le 57344 c && nat_lt c 1114112)

abbrev pub at_char : ℕ → QuotedState → Turn QuotedState Fault
at_char c s = on (record { mode = inside; position = past s.position; folded = with_char c s.folded })

-- a break; of CR LF the CR is passed first
abbrev pub at_break : ℕ → List ℕ → QuotedState → Turn QuotedState Fault
at_break c a s = (if is_cr_lf c a then on (record { mode = gap; position = past s.position; folded = s.folded }) else on (record { mode = gap; position = past_break s.position; folded = with_break s.folded }))

abbrev pub at_gap : Context → ℕ → List ℕ → QuotedState → Turn QuotedState Fault
at_gap ctx c a s =
    (if is_break c then at_break c a s else
    (if s.folded.leading && (c == 9) && nat_lt (s.position.col + 1) ctx.indent then fail (At problem.TabAsIndentation s.position) else
    on (record { mode = gap; position = past s.position; folded = with_blank c s.folded })))

-- an escaped break
abbrev pub at_escaped_break : ℕ → List ℕ → QuotedState → Turn QuotedState Fault
at_escaped_break c a s = (if is_cr_lf c a then on (record { mode = breaking; position = past s.position; folded = s.folded }) else on (record { mode = after; position = past_break s.position; folded = with_escaped_break s.folded }))

abbrev pub at_quote : Bool → List ℕ → QuotedState → Turn QuotedState Fault
at_quote single a s = on (record { mode = (if single && (slice_index a 0 == 39) then doubled else closed); position = past s.position; folded = s.folded })

abbrev pub at_backslash : List ℕ → QuotedState → Turn QuotedState Fault
at_backslash a s = on (record { mode = (if is_break (slice_index a 0) then breaking else named); position = past s.position; folded = s.folded })

-- what a line has but blanks and breaks
abbrev pub at_inside : Bool → ℕ → List ℕ → QuotedState → Turn QuotedState Fault
at_inside single c a s =
    (if (c == 92) && not single then at_backslash a s else
    (if c == quote_of single then at_quote single a s else at_char c s))

abbrev pub at_named : Position → Escape → QuotedState → Turn QuotedState Fault
at_named start (Char d) s = at_char d s
at_named start (Code k) s = on (record { mode = digits (more_of k) 0; position = past s.position; folded = s.folded })
at_named start Unknown s = fail (At problem.UnknownEscape start)

-- a code's digit: after the last one the code has to be a character's
abbrev pub at_digit : Position → ℕ → ℕ → QuotedState → Turn QuotedState Fault
at_digit start zero value s = (if is_scalar value then at_char value s else fail (At problem.EscapedCode start))
at_digit start (suc more) value s = on (record { mode = digits more value; position = past s.position; folded = s.folded })

-- what may not stand where a line begins or goes on
unfoldable pub refused : Context → Position → List ℕ → Position → Result (Unit {0}) Fault
refused ctx start a p =
    (if at_marker p.col a then Err (At problem.QuotedDocumentMarker start) else
    (if nat_lt (p.col + 1) ctx.indent then Err (At problem.QuotedIndentation start) else Ok tt))

abbrev pub unless : Result (Unit {0}) Fault → Turn QuotedState Fault → Turn QuotedState Fault
unless (Ok t) u = u
unless (Err f) u = fail f

-- what a line has
abbrev pub in_line : Bool → Context → ℕ → List ℕ → QuotedState → Turn QuotedState Fault
in_line single ctx c a s = (if is_break c || is_blank c then at_gap ctx c a s else at_inside single c a s)

-- what stands where a line begins or goes on
abbrev pub at_line : Bool → Context → Position → ℕ → List ℕ → QuotedState → Turn QuotedState Fault
at_line single ctx start c a s = unless (refused ctx start (c ∷ a) s.position) (in_line single ctx c a (record s { folded = joined s.folded }))

abbrev pub turn_in : Bool → Context → Position → Mode → QuotedState → ℕ → List ℕ → Turn QuotedState Fault
turn_in single ctx start (at_part part.First) s c a = at_line single ctx start c a s
turn_in single ctx start (at_part part.Inside) s c a = in_line single ctx c a s
turn_in single ctx start (at_part part.Gap) s c a = (if is_break c || is_blank c then at_gap ctx c a s else at_line single ctx start c a s)
turn_in single ctx start (at_part part.Breaking) s c a = at_escaped_break c a s
turn_in single ctx start (at_part part.After) s c a =
    (if is_break c || is_blank c then at_gap ctx c a s else
    (if c == quote_of single then at_quote single a s else at_line single ctx start c a s))
turn_in single ctx start (at_part part.Doubled) s c a = at_char c s
turn_in single ctx start named s c a = at_named start (escape_of c) s
turn_in single ctx start (digits more value) s c a = (if is_hex c then at_digit start more (value * 16 + digit_value c) s else fail (At problem.HexadecimalDigit start))
turn_in single ctx start (at_part part.Closed) s c a = stop s

abbrev pub turn : Bool → Context → Position → QuotedState → ℕ → List ℕ → Turn QuotedState Fault
turn single ctx start s c a = turn_in single ctx start s.mode s c a

-- where the text ends inside a scalar
abbrev pub end_in : Position → Mode → List ℕ → Position → List ℕ → Result (Read (List ℕ)) Fault
end_in start (at_part part.Closed) rest position text = Ok (record { rest = rest; position = position; value = text })
end_in start named rest position text = Err (At problem.UnknownEscape start)
end_in start (digits more value) rest position text = Err (At problem.HexadecimalDigit start)
end_in start _ rest position text = Err (At problem.QuotedEnd start)

abbrev pub ended : Position → Result (Stop QuotedState) Fault → Result (Read (List ℕ)) Fault
ended start (Ok t) = end_in start t.state.mode t.rest t.state.position t.state.folded.text
ended start (Err f) = Err f

-- the scan from a state on
abbrev pub quoted_from : Bool → Context → Position → List ℕ → QuotedState → Result (Read (List ℕ)) Fault
quoted_from single ctx start a s = ended start (run (turn single ctx start) a s)

-- the scan where so many digits of a code are left, and those before have a value
abbrev pub digits_from : Bool → Context → Position → (left value : ℕ) → List ℕ → Position → Folded → Result (Read (List ℕ)) Fault
digits_from single ctx start zero value a p t = (if is_scalar value then quoted_from single ctx start a (record { mode = inside; position = p; folded = with_char value t }) else Err (At problem.EscapedCode start))
digits_from single ctx start (suc more) value a p t = quoted_from single ctx start a (record { mode = digits more value; position = p; folded = t })

-- the scan from the opening quote on
unfoldable pub quoted : Bool → Context → List ℕ → Position → Result (Read (List ℕ)) Fault
quoted single ctx [] p = Err (At problem.QuotedEnd p)
quoted single ctx (c ∷ a) p = quoted_from single ctx p a (record { mode = first; position = past p; folded = nothing })
