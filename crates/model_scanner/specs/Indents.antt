-- Levels of indentation (YAML 1.2, sections 6.1 and 8.2). Columns count from 1, and 0 is outside all collections.
use Rattle.std.specs.Prelude.{ℕ, ◌+◌, List, [], ◌∷◌, ◌++◌, Bool, true, false, not, ◌&&◌, nat_lt, nat_le, if◌then◌else◌, Option, Some, None}
use Rattle.std.specs.List.{insert}
use Rattle.defs_text.specs.Position.{Position}
use Rattle.defs_token.specs.Token.{Tok, Token}
use Rattle.model_scanner.specs.declared.level.Indent.{Indent}
use Rattle.model_scanner.specs.State.{Held, in_flow, token}
use Rattle.model_scanner.specs.Keys.{top_needs_block_end}

abbrev pub level : ℕ → Bool → Indent
level i ends = record { indent = i; needs_block_end = ends }

-- a token that goes in before those of a number, or after all
abbrev pub placed : Option ℕ → Token → List Token → List Token
placed None t ts = ts ++ t ∷ []
placed (Some n) t ts = insert ts n t

abbrev pub drop_open : Held → List Indent → Held
drop_open s [] = s
drop_open s (d ∷ ds) = (if d.needs_block_end then s else record s { indent = d.indent; indents = ds })

-- An innermost level that opens no collection goes before one at its column or after that.
unfoldable pub drop_open_level : ℕ → Held → Held
drop_open_level col s = (if nat_le s.indent (col + 1) then drop_open s s.indents else s)

unfoldable pub deepen : ℕ → Option ℕ → Token → Held → Held
deepen col number t s = (if nat_lt s.indent (col + 1) then record s { indents = level s.indent true ∷ s.indents; indent = col + 1; tokens = placed number t s.tokens } else s)

-- A collection begins at a column, unless one stands there or the position is inside flow. Its start goes in before the tokens of a number, or after all.
unfoldable pub roll_indent : ℕ → Option ℕ → Tok → Position → Held → Held
roll_indent col number t p s = (if in_flow s then s else deepen col number (token p t) (drop_open_level col s))

-- whether the innermost level is a block collection, and the position is outside flow
unfoldable pub in_block : Held → Bool
in_block s = not (in_flow s) && top_needs_block_end s.indents

-- A level that opens no collection, one column deeper, inside a block collection.
unfoldable pub roll_one_col_indent : Held → Held
roll_one_col_indent s = (if in_block s then record s { indents = level s.indent false ∷ s.indents; indent = s.indent + 1 } else s)

-- the levels that stay, and the tokens with the ends of the others
pub record Levels : Type 0 where
  pub indent : ℕ
  pub indents : List Indent
  pub tokens : List Token

abbrev pub with_levels : Held → Levels → Held
with_levels s u = record s { indent = u.indent; indents = u.indents; tokens = u.tokens }

abbrev pub end_level : Bool → Position → List Token → List Token
end_level ends p ts = (if ends then ts ++ token p Tok.block_end ∷ [] else ts)

unfoldable pub unrolled : ℕ → Position → ℕ → List Indent → List Token → Levels
unrolled limit p i [] ts = record { indent = i; indents = []; tokens = ts }
unrolled limit p i (d ∷ ds) ts = (if nat_lt limit i then unrolled limit p d.indent ds (end_level d.needs_block_end p ts) else record { indent = i; indents = d ∷ ds; tokens = ts })

-- Outside flow, the levels deeper than the limit end.
unfoldable pub unroll_indent : ℕ → Held → Held
unroll_indent limit s = (if in_flow s then s else with_levels s (unrolled limit s.position s.indent s.indents s.tokens))

unfoldable pub without_open : ℕ → List Indent → List Token → Levels
without_open i [] ts = record { indent = i; indents = []; tokens = ts }
without_open i (d ∷ ds) ts = (if d.needs_block_end then record { indent = i; indents = d ∷ ds; tokens = ts } else without_open d.indent ds ts)

-- The innermost levels that open no collection go.
unfoldable pub unroll_non_block_indents : Held → Held
unroll_non_block_indents s = with_levels s (without_open s.indent s.indents s.tokens)
