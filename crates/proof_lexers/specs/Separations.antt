-- What the scanner's model passes between tokens is a separation of the text. YAML 1.2, sections 6.1 to 6.7.
use Rattle.std.specs.Prelude.{◌≡◌, ℕ, suc, List, [], ◌∷◌, ◌++◌, Bool, true, false, ◌&&◌, ◌||◌, ◌==◌, not, nat_lt}
use Rattle.defs_text.specs.Position.{Position, position_after}
use Rattle.defs_text.specs.Text.{is_empty}
use Rattle.defs_text.specs.Classes.{is_break}
use Rattle.defs_text.specs.FlowScalar.{begins_with}
use Rattle.defs_token.specs.Separation.{is_separation, is_blanks}
use Rattle.yaml_tokens.specs.declared.problem.Fault.{Fault}
use Rattle.yaml_tokens.specs.declared.problem.Fault.TheVariants.{At}
use Rattle.yaml_tokens.specs.declared.problem.Problem.TheVariants as problem
use Rattle.model_scanner.specs.declared.context.SkipTabs.{SkipTabs}
use Rattle.model_scanner.specs.declared.context.Whitespace.{Whitespace}
use Rattle.model_scanner.specs.Machine.{Read}
use Rattle.model_scanner.specs.Blanks.{are_skipped}
use Rattle.model_scanner.specs.State.{Held, ScannerState, in_flow}
use Rattle.proof_lexers.specs.PlainEnds.{is_white, has_break, begins_token}

-- whether a text begins with a blank, a break or a comment
abbrev pub begins_separation : List ℕ → Bool
begins_separation [] = false
begins_separation (c ∷ r) = is_white c || (c == 35)

-- What is held after a separation: its position, and outside flow a key may begin after a break in it. Whether blanks alone stand before that position on its line is said apart.
abbrev pub after_separation : Held → (leading : Bool) → (separation rest : List ℕ) → ScannerState
after_separation s leading separation rest =
    record { rest = rest; held = record s { position = position_after s.position separation rest; leading = leading; key_allowed = (not (in_flow s) && has_break separation) || s.key_allowed } }

-- whether a position is left of the innermost level of indentation
abbrev pub is_left : Held → Position → Bool
is_left s p = not (is_empty s.indents) && nat_lt (suc p.col) s.indent

-- A separation that a text begins with was passed, and the text after it doesn't begin with more of what is passed there.
pub record HasPassed (begins : List ℕ → Bool) (s : Held) (text : List ℕ) (u : ScannerState) : Type 0 where
  pub is_leading : Bool
  pub separation : List ℕ
  pub cut : text ≡ separation ++ u.rest
  pub is_filled : is_separation false separation u.rest ≡ true
  pub solid : begins u.rest ≡ false
  pub is_state : u ≡ after_separation s is_leading separation u.rest

-- Why the way to the next token is refused: a TAB left of the innermost level has more blanks after it, and then a token.
pub data IsTabRefusal (s : Held) (text : List ℕ) : Fault → Type 0 where
  tab_left : (before blanks rest : List ℕ) → text ≡ before ++ 9 ∷ (blanks ++ rest) → is_separation false before (9 ∷ (blanks ++ rest)) ≡ true → is_left s (position_after s.position before (9 ∷ (blanks ++ rest))) ≡ true
      → is_blanks blanks ≡ true → begins_token rest ≡ true → IsTabRefusal s text (At problem.TabInBlockIndentation (position_after s.position (before ++ 9 ∷ blanks) rest))

-- just this separation was passed
abbrev pub IsAfter : Held → (separation rest : List ℕ) → ScannerState → Type 0
IsAfter s separation rest u = (leading : Bool) × (u ≡ after_separation s leading separation rest)

-- whether a text begins with a space, a break or a comment
abbrev pub begins_white_space : List ℕ → Bool
begins_white_space [] = false
begins_white_space (c ∷ r) = (c == 32) || is_break c || (c == 35)

-- Why the way over what must stand after a `?` is refused: neither a space nor a break stands there, nor after a comment.
pub data HasNoWhiteSpace (s : Held) (text : List ℕ) : Fault → Type 0 where
  misses : (separation rest : List ℕ) → text ≡ separation ++ rest → is_separation false separation rest ≡ true → begins_with 32 text ≡ false → has_break separation ≡ false → begins_white_space rest ≡ false
      → HasNoWhiteSpace s text (At problem.WhitespaceExpected (position_after s.position separation rest))

-- what spaces, TABs and a comment leave at a position, and which of the first two stood there
abbrev pub after_space : Position → (separation rest : List ℕ) → Whitespace → Read Whitespace
after_space p separation rest found = record { rest = rest; position = position_after p separation rest; value = found }

-- whether a character stands in a text
abbrev pub has : ℕ → List ℕ → Bool
has c [] = false
has c (d ∷ r) = (d == c) || has c r

-- whether a text is spaces, and TABs where these are passed
abbrev pub are_spaces : SkipTabs → List ℕ → Bool
are_spaces tabs [] = true
are_spaces tabs (c ∷ r) = ((c == 32) || ((c == 9) && are_skipped tabs)) && are_spaces tabs r

-- whether a text begins with none of these, and no comment
abbrev pub ends_spaces : SkipTabs → List ℕ → Bool
ends_spaces tabs [] = true
ends_spaces tabs (c ∷ r) = not ((c == 32) || ((c == 9) && are_skipped tabs) || (c == 35))

-- What is passed within a line: all blanks and maybe a comment after one, which is a separation of one line.
pub data HasSpaces (tabs : SkipTabs) (p : Position) (text : List ℕ) : Read Whitespace → Type 0 where
  spaces : (blanks comment rest : List ℕ) → text ≡ blanks ++ (comment ++ rest) → are_spaces tabs blanks ≡ true → is_separation false (blanks ++ comment) rest ≡ true → has_break (blanks ++ comment) ≡ false → ends_spaces tabs rest ≡ true
      → HasSpaces tabs p text (after_space p (blanks ++ comment) rest (record { found_tabs = has 9 blanks; has_valid_yaml_ws = has 32 blanks }))

-- Why it is refused: a comment stands after no blank.
pub data IsGlued (p : Position) (text : List ℕ) : Fault → Type 0 where
  glued : begins_with 35 text ≡ true → IsGlued p text (At problem.CommentNotSeparated p)
