-- What stands between two tokens: blanks, line breaks and comments (YAML 1.2, chapter 6).
use Rattle.std.specs.Prelude.{ℕ, ◌+◌, List, [], ◌∷◌, Bool, true, false, ◌||◌, ◌&&◌, ◌==◌, not, nat_lt, if◌then◌else◌, Result, Ok, Err}
use Rattle.yaml_chars.specs.Class.{is_break, is_blank}
use Rattle.defs_text.specs.Text.{is_empty}
use Rattle.yaml_tokens.specs.declared.problem.Fault.{Fault}
use Rattle.yaml_tokens.specs.declared.problem.Fault.TheVariants.{At}
use Rattle.yaml_tokens.specs.declared.problem.Problem.TheVariants as problem
use Rattle.model_scanner.specs.declared.context.SkipTabs.{SkipTabs}
use Rattle.model_scanner.specs.Machine.{past_break, is_cr_lf}
use Rattle.model_scanner.specs.Blanks.{space}
use Rattle.model_scanner.specs.State.{Held, ScannerState, in_flow, moved, lexed}

-- what is stepped over: what stands between tokens, a comment, or a line that begins with a TAB in the indentation of a block collection
pub data Gap : Type 0 where
  between : Gap
  comment : Gap
  tab_line : Gap

-- after a line break. Outside flow a key may begin there.
abbrev pub past_line : Held → Held
past_line s = record s { position = past_break s.position; leading = true; key_allowed = not (in_flow s) || s.key_allowed }

-- at a break's character: of CR LF the CR is passed first
abbrev pub at_break : ℕ → List ℕ → Held → Held
at_break c a s = (if is_cr_lf c a then moved s else past_line s)

-- whether this position belongs to the indentation of a block collection
unfoldable pub is_before_indent : Held → Bool
is_before_indent s = not (is_empty s.indents) && s.leading && nat_lt (s.position.col + 1) s.indent

abbrev pub in_line : Gap → ℕ → List ℕ → Held → (Gap → Held → Result ScannerState Fault) → Result ScannerState Fault
in_line between c a s go =
    (if (c == 9) && is_before_indent s then go tab_line (moved s) else
    (if is_blank c then go between (moved s) else
    (if c == 35 then go comment (record (moved s) { leading = false }) else Ok (record { rest = c ∷ a; held = s }))))
in_line comment c a s go = go comment (moved s)
in_line tab_line c a s go = (if is_blank c then go tab_line (moved s) else (if c == 35 then go comment (moved s) else Err (At problem.TabInBlockIndentation s.position)))

abbrev pub gap_by : Gap → ℕ → List ℕ → Held → (Gap → Held → Result ScannerState Fault) → Result ScannerState Fault
gap_by m c a s go = (if is_break c then go between (at_break c a s) else in_line m c a s go)

unfoldable pub skip : Gap → List ℕ → Held → Result ScannerState Fault
skip m [] s = Ok (record { rest = []; held = s })
skip m (c ∷ a) s = gap_by m c a s (λ n u. skip n a u)

-- To the next token. In the indentation of a block collection a line that begins with a TAB has no content.
unfoldable pub skip_to_next_token : ScannerState → Result ScannerState Fault
skip_to_next_token t = skip between t.rest t.held

-- after spaces, TABs where these are skipped, and a comment
unfoldable pub skip_spaces : SkipTabs → ScannerState → Result ScannerState Fault
skip_spaces tabs t = lexed (space tabs t.rest t.held.position) t.held (λ w u. Ok u)

abbrev pub white_end : Bool → List ℕ → Held → Result ScannerState Fault
white_end true a s = Ok (record { rest = a; held = s })
white_end false a s = Err (At problem.WhitespaceExpected s.position)

-- in a comment or not, after a space or a break or not
abbrev pub white_by : Bool → Bool → ℕ → List ℕ → Held → (Bool → Bool → Held → Result ScannerState Fault) → Result ScannerState Fault
white_by in_comment found c a s go =
    (if is_break c then go false true (at_break c a s) else
    (if in_comment then go true found (moved s) else
    (if c == 32 then go false true (moved s) else
    (if c == 35 then go true found (moved s) else white_end found (c ∷ a) s))))

unfoldable pub white : Bool → Bool → List ℕ → Held → Result ScannerState Fault
white in_comment found [] s = white_end found [] s
white in_comment found (c ∷ a) s = white_by in_comment found c a s (λ i f u. white i f a u)

-- What must stand after a `?`: spaces, breaks and comments.
unfoldable pub skip_yaml_whitespace : ScannerState → Result ScannerState Fault
skip_yaml_whitespace t = white false false t.rest t.held
