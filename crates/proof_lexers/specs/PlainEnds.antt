-- How the scan of a plain scalar ends, told by its text and by what stands around it. YAML 1.2, section 7.3.3.
use Rattle.std.specs.Prelude.{◌≡◌, ℕ, zero, suc, List, [], ◌∷◌, ◌++◌, Bool, true, false, ◌&&◌, ◌||◌, ◌==◌, not, nat_lt, nat_le, Option, Some, None}
use Rattle.defs_text.specs.Position.{Position, position_after}
use Rattle.defs_text.specs.Classes.{is_blank, is_break}
use Rattle.defs_text.specs.FlowScalar.{plain_value}
use Rattle.defs_token.specs.Separation.{is_blanks}
use Rattle.defs_token.specs.Plain.{Stand, inside, after_blank, on_line, past, begins_flow, goes_on, is_whole_plain}
use Rattle.yaml_tokens.specs.declared.problem.Fault.{Fault}
use Rattle.yaml_tokens.specs.declared.problem.Fault.TheVariants.{At}
use Rattle.yaml_tokens.specs.declared.problem.Problem.TheVariants as problem
use Rattle.model_scanner.specs.declared.context.Context.{Context}
use Rattle.model_scanner.specs.Machine.{Read}
use Rattle.model_scanner.specs.Plain.{Plain}

-- the column of the innermost block collection, from one that is counted from 1
abbrev pub collection_of : ℕ → Option ℕ
collection_of zero = None
collection_of (suc n) = Some n

-- whether a character is a blank or a break
abbrev pub is_white : ℕ → Bool
is_white c = is_blank c || is_break c

-- whether a text is blanks and breaks
abbrev pub is_gap : List ℕ → Bool
is_gap [] = true
is_gap (c ∷ r) = is_white c && is_gap r

-- whether a text begins with a blank or a break
abbrev pub begins_white : List ℕ → Bool
begins_white [] = false
begins_white (c ∷ r) = is_white c

-- whether a text begins with a character that is neither a blank nor a break
abbrev pub begins_solid : List ℕ → Bool
begins_solid [] = false
begins_solid (c ∷ r) = not (is_white c)

-- whether a text begins with what is neither a blank, a break nor a comment
abbrev pub begins_token : List ℕ → Bool
begins_token [] = false
begins_token (c ∷ r) = not (is_white c || (c == 35))

-- whether a break stands in a text
abbrev pub has_break : List ℕ → Bool
has_break [] = false
has_break (c ∷ r) = is_break c || has_break r

-- what stands before the position after a text
abbrev pub stand_after : Stand → List ℕ → Stand
stand_after s [] = s
stand_after s (c ∷ r) = stand_after (past s c) r

-- whether a blank or a break stands directly before a position
abbrev pub is_apart : Stand → Bool
is_apart inside = false
is_apart _ = true

-- Whether a line may begin in this column: outside flow not left of the innermost block collection, which may stand one further right for the first line.
abbrev pub is_indented : Context → Position → Bool
is_indented ctx p = ctx.flow || nat_le ctx.indent (suc p.col)

-- whether a plain scalar that begins with a text's first character goes on over all of the text
abbrev pub goes_over : Context → (text next : List ℕ) → Bool
goes_over ctx [] next = true
goes_over ctx (c ∷ r) next = goes_on ctx.flow (collection_of ctx.indent) inside r next

-- A later line of a plain scalar begins with a TAB left of the innermost block collection, and holds more than a comment.
pub record HasTab (ctx : Context) (text : List ℕ) : Type 0 where
  pub before : List ℕ
  pub blanks : List ℕ
  pub rest : List ℕ
  pub column : ℕ
  pub is_text : text ≡ before ++ 9 ∷ (blanks ++ rest)
  pub is_over : goes_over ctx before (9 ∷ (blanks ++ rest)) ≡ true
  pub is_at : stand_after after_blank before ≡ on_line column
  pub is_left : nat_lt column ctx.indent ≡ true
  pub are_blanks : is_blanks blanks ≡ true
  pub is_token : begins_token rest ≡ true

-- whether a plain scalar begins left of the innermost block collection, in a flow collection
abbrev pub begins_left : Context → Position → Bool
begins_left ctx start = ctx.flow && nat_lt start.col ctx.indent

-- Why a plain scalar at a position is refused: in a flow collection it begins left of the innermost block collection; or else a later line of it has such a TAB;
-- or else, in a flow collection, at its start or after blanks or breaks in it a dash stands before a flow indicator.
pub data IsPlainRefusal (ctx : Context) (start : Position) (text : List ℕ) : Fault → Type 0 where
  by_column : ctx.flow ≡ true → nat_lt start.col ctx.indent ≡ true → IsPlainRefusal ctx start text (At problem.FlowIndentation start)
  by_tab : begins_left ctx start ≡ false → HasTab ctx text → IsPlainRefusal ctx start text (At problem.PlainTab start)
  by_dash : (before rest : List ℕ) → begins_left ctx start ≡ false → (HasTab ctx text → ⊥) → ctx.flow ≡ true → text ≡ before ++ 45 ∷ rest → begins_flow rest ≡ true → goes_over ctx before (45 ∷ rest) ≡ true → is_apart (stand_after after_blank before) ≡ true
      → IsPlainRefusal ctx start text (At problem.PlainDashInFlow (position_after start before (45 ∷ rest)))

-- what is left after a plain scalar at a position, its gap, and what stands after that; its value, and whether a break stands in the gap
abbrev pub after_plain : Position → (piece gap rest value : List ℕ) → Read Plain
after_plain p piece gap rest value = record { rest = rest; position = position_after p (piece ++ gap) rest; value = record { text = value; leading = has_break gap } }

-- What is read of a text: the whole of a plain scalar as its value, and the blanks and breaks after it.
pub data IsPlainRead (ctx : Context) (start : Position) (text : List ℕ) : Read Plain → Type 0 where
  whole_plain : (piece gap rest value : List ℕ) → text ≡ piece ++ (gap ++ rest) → is_whole_plain ctx.flow (collection_of ctx.indent) piece (gap ++ rest) ≡ true → is_gap gap ≡ true → begins_white rest ≡ false
      → plain_value piece ≡ Some value → IsPlainRead ctx start text (after_plain start piece gap rest value)

-- What is read of this piece and the text after it: just the piece as its value, and the blanks and breaks that the text begins with.
pub data IsScalarRead (start : Position) (piece next value : List ℕ) : Read Plain → Type 0 where
  just : (gap rest : List ℕ) → next ≡ gap ++ rest → is_gap gap ≡ true → begins_white rest ≡ false → IsScalarRead start piece next value (after_plain start piece gap rest value)
