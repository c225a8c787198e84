-- Where a key, a value or another scalar of a block collection may be taken at once.
use Rattle.std.specs.Prelude.{◌≡◌, ℕ, ◌+◌, ◌<◌, ◌≤◌, ◌==◌, ◌&&◌, List, [], ◌∷◌, ◌++◌, length, map, Bool, true, false, None, Some}
use Rattle.defs_text.specs.Position.{Position}
use Rattle.defs_token.specs.Token.{Tok, Token}
use Rattle.model_scanner.specs.State.{token}
use Rattle.model_scanner.specs.Keys.{top_needs_block_end}
use Rattle.yaml_scanner.specs.ImplicitKeys.{no_implicit}
use Rattle.model_scanner.specs.Indents.{level, without_open}
use Rattle.yaml_scanner.specs.Levels.{Columns, ends_open, value_level}
use Rattle.yaml_scanner.specs.Tokens.{handed, waiting}
use Rattle.yaml_scanner.specs.declared.fetcher.Fetcher.{Fetcher}

-- inside the stream, outside flow, no fault is kept and nothing may be a key
pub record IsSettled {T : Type 0} (s : Fetcher T) : Type 0 where
  pub kept : s.kept ≡ None
  pub started : s.started ≡ true
  pub ended : s.tokens.ended ≡ false
  pub over : s.tokens.over ≡ false
  pub flow : s.flow ≡ []
  pub no_open_key : map no_implicit s.keys ≡ s.keys
  pub level : 0 < length s.keys

-- The innermost block collection stands at a column. Its key opens a level for the value, or the value before has left such a level open.
abbrev pub StandsAt : ℕ → (opens : Bool) → Columns → Type 0
StandsAt col true l = (l.indent ≡ col + 1) × (top_needs_block_end l.indents ≡ true)
StandsAt col false l = (l.indent ≡ col + 2) × (value_level l.indents ≡ Some (col + 1))

-- the levels after such a key and its `:`
abbrev pub levels_after : (opens : Bool) → Columns → Columns
levels_after true l = record { indent = l.indent + 1; indents = level l.indent false ∷ l.indents }
levels_after false l = l

-- no token waits, and a key may begin here, where the innermost block collection stands
pub record AwaitsKey {T : Type 0} (s : Fetcher T) (opens : Bool) : Type 0 where
  pub settled : IsSettled s
  pub waits : s.tokens.given ≡ length s.tokens.all
  pub allowed : s.key_allowed ≡ true
  pub stands : StandsAt s.window.col opens s.levels

-- a `Value` alone waits, and what comes next stands deeper than the block collection outside, whose column is the limit
pub record AwaitsValue {T : Type 0} (s : Fetcher T) (value : Position) (limit : ℕ) : Type 0 where
  pub settled : IsSettled s
  pub waits : s.tokens.all ≡ handed s.tokens ++ token value Tok.value ∷ []
  pub count : s.tokens.given + 1 ≡ length s.tokens.all
  pub allowed : s.key_allowed ≡ false
  pub opened : value_level s.levels.indents ≡ Some limit
  pub deep : s.levels.indent ≤ s.window.col + 2
  pub off : limit ≤ s.window.col + 2

-- A node may begin at a column: without the levels that open no collection, the innermost collection stands there or left of there,
-- or none is open. Where the limit is not 0, the node need not be a key, and the next line ends a scalar if it has fewer spaces.
pub record Stands (col : ℕ) (l : Columns) (limit : ℕ) : Type 0 where
  pub outer : Columns
  pub rest : (ts : List Token) → without_open l.indent l.indents ts ≡ record { indent = outer.indent; indents = outer.indents; tokens = ts }
  pub shallow : l.indent ≤ col + 1
  pub deep : outer.indent ≤ col + 1
  pub block : ends_open outer.indents ≡ false
  pub there : outer.indent ≡ col + 1 → top_needs_block_end outer.indents ≡ true
  pub low : 0 < limit → (limit ≤ outer.indent) × (((l.indent == col + 1) && top_needs_block_end l.indents) ≡ false)

-- A node may begin here, outside flow: a key may begin, and no token before may still become one. At most one token waits, and
-- where one does, no mapping begins with the key.
pub record AwaitsNode {T : Type 0} (s : Fetcher T) (limit : ℕ) : Type 0 where
  pub flow : s.flow ≡ []
  pub allowed : s.key_allowed ≡ true
  pub no_open_key : map no_implicit s.keys ≡ s.keys
  pub level : 0 < length s.keys
  pub waits : waiting s.tokens ≤ 1
  pub behind : 0 < waiting s.tokens → StandsAt s.window.col true s.levels
  pub stands : Stands s.window.col s.levels limit
