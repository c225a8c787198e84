-- The levels of indentation: without those at the top that open no collection; where a block collection begins; and where the value of an entry is awaited.
use Rattle.proof_scanner.proofs.Common.{[], AreCollections, AreLevels, arith, columns, deepen, drop_open, drop_open_level, eqb-true, false, has_open_level, Held, if◌then◌else◌, in_block, in_flow, Indent, innermost, is_deeper, is_empty, IsNotRight, Levels, List, nat_le, nat_lt, nat_tests, opened, Option, placed, Position, refl, roll_indent, roll_one_col_indent, sym, Tok, Token, token, top_needs_block_end, true, without_open, ℕ, ◌+◌, ◌∷◌, ◌≡◌, ◌≤◌, not}
use Rattle.proof_scanner.proofs.Sound.BlockEnds.{IsLeast}

-- What is known of these levels.
pub record AreClosed (i : ℕ) (ds : List Indent) (ts : List Token) (u : Levels) : Type 0 where
  pub same_tokens : u.tokens ≡ ts
  pub same_columns : columns i ds ≡ columns u.indent u.indents
  pub are_levels : AreLevels u.indent u.indents
  pub not_deeper : u.indent ≤ i
  pub none_open : has_open_level u.indents ≡ false
  pub is_least : IsLeast u.indent (columns u.indent u.indents)

pub without_is : (i : ℕ) (ds : List Indent) (ts : List Token) → AreLevels i ds → AreClosed i ds ts (without_open i ds ts)
unfolding without_open
without_is i a ts b = grind arith

-- ---- where a block collection begins

-- a column is deeper than the innermost collection just where it is deeper than its level
pub deeper_is : (col i : ℕ) (ds : List Indent) → AreCollections i ds → is_deeper col (columns i ds) ≡ nat_lt i (col + 1)
deeper_is col i [] a = rw a (sym (grind arith))
deeper_is col i (d ∷ ds) a = grind arith

-- A collection begins at a column where that is deeper than the innermost one, and its start is put among the tokens; else that one goes on.
pub record RollsTo (col : ℕ) (number : Option ℕ) (t : Token) (s u : Held) : Type 0 where
  pub indents : List Indent
  pub indent : ℕ
  pub is_held : u ≡ record s { indents = indents; indent = indent; tokens = (if is_deeper col (columns s.indent s.indents) then placed number t s.tokens else s.tokens) }
  pub columns_are : columns indent indents ≡ opened col (columns s.indent s.indents)
  pub are_levels : AreLevels indent indents
  pub is_top : s.indent ≤ col + 1 → top_needs_block_end indents ≡ true

-- levels that are all collections; on them none is open
pub all_close : (i : ℕ) (ds : List Indent) → AreCollections i ds → AreLevels i ds × (has_open_level ds ≡ false)
all_close i ds a = grind arith

-- outside flow
pub rolls_to : (col : ℕ) (number : Option ℕ) (tok : Tok) (p : Position) (s : Held) → in_flow s ≡ false → AreLevels s.indent s.indents → IsNotRight (innermost (columns s.indent s.indents)) col →
    RollsTo col number (token p tok) s (roll_indent col number tok p s)
unfolding roll_indent drop_open_level deepen
rolls_to col number tok p s out levels right =
    let f = by s.indents refl levels right in rw out (record { indents = _; indent = _; is_held = f.0; columns_are = f.1; are_levels = f.2; is_top = f.3 })
  where
    Facts : Held → Type 0
    Facts u =
        (u ≡ record s { indents = u.indents; indent = u.indent; tokens = (if is_deeper col (columns s.indent s.indents) then placed number (token p tok) s.tokens else s.tokens) }) ×
        (columns u.indent u.indents ≡ opened col (columns s.indent s.indents)) × AreLevels u.indent u.indents × (s.indent ≤ col + 1 → top_needs_block_end u.indents ≡ true)

    by : (ds : List Indent) → s.indents ≡ ds → AreLevels s.indent ds → IsNotRight (innermost (columns s.indent ds)) col → Facts (deepen col number (token p tok) (if nat_le s.indent (col + 1) then drop_open s ds else s))
    by [] e l r = grind (arith, nat_tests, eqb-true)
    by (d ∷ ds) e l r = grind (arith, nat_tests, eqb-true, deeper_is col s.indent (d ∷ ds), deeper_is col d.indent ds l.1, all_close d.indent ds l.1)

-- ---- the value of an entry is awaited

-- A level that opens no collection, where one may stand.
pub record OpensLevel (s u : Held) : Type 0 where
  pub indents : List Indent
  pub indent : ℕ
  pub is_held : u ≡ record s { indents = indents; indent = indent }
  pub columns_are : columns indent indents ≡ columns s.indent s.indents
  pub are_levels : AreLevels indent indents
  pub awaits : has_open_level indents ≡ (if in_flow s then has_open_level s.indents else not (is_empty (columns s.indent s.indents)))

pub opens_level : (s : Held) → AreLevels s.indent s.indents → OpensLevel s (roll_one_col_indent s)
unfolding roll_one_col_indent in_block
opens_level s l = grind arith

-- where a collection is innermost, no value is awaited
pub top_closed : (ds : List Indent) → top_needs_block_end ds ≡ true → (is_empty ds ≡ false) × (has_open_level ds ≡ false)
top_closed a h = grind arith

-- and so a level
pub some_levels : (i : ℕ) (ds : List Indent) → is_empty (columns i ds) ≡ false → is_empty ds ≡ false
some_levels i a h = grind arith
