-- Implicit keys outside flow: where one may begin, and how one comes to its colon. YAML 1.2, sections 7.4.2 (implicit keys), 8.2.1, 8.2.2.
-- A key lies on one line, and its colon at most 1024 characters after its start. Its mapping comes to the open block collections at the colon.
use Rattle.std.specs.Prelude.{ℕ, ◌+◌, List, [], ◌∷◌, Bool, true, false, nat_le, if◌then◌else◌, drop, Option, Some, None}
use Rattle.defs_text.specs.Breaks.{is_before_line_feed}
use Rattle.defs_text.specs.Position.{Position}
use Rattle.defs_token.specs.Step.{Act, gives_node, gives_block_scalar, gives_dash, gives_question, gives_colon, gives_comma, gives_closing, gives_marker, Previous, directive, has_break}
use Rattle.defs_token.specs.Column.{opened}

-- What may begin outside flow: a key, and where a key may, an entry or a colon with an empty key; none of these; or a key has begun here and waits for its colon.
pub data Line : Type 0 where
  free : Line
  taken : Line
  waits : (begin : Position) → Line

-- whether a key waits
abbrev pub is_waiting : Line → Bool
is_waiting (waits begin) = true
is_waiting _ = false

-- ---- a separation

-- a text without the break that it begins with
abbrev pub without_break : List ℕ → List ℕ
without_break [] = []
without_break (c ∷ r) = (if is_before_line_feed c r then drop 1 r else r)

-- Whether a key may begin after a separation because it has a break. A directive's own break does not count. Ours: the original takes that break as part of the directive.
abbrev pub begins_free_line : Previous → (separation : List ℕ) → Bool
begins_free_line directive separation = has_break (without_break separation)
begins_free_line _ separation = has_break separation

-- After a separation: outside flow a key may begin after a break, and no break stands while a key waits.
abbrev pub line_past_separation : (in_flow broken : Bool) → Line → Option Line
line_past_separation in_flow false l = Some l
line_past_separation in_flow true (waits begin) = None
line_past_separation true true free = Some free
line_past_separation true true taken = Some taken
line_past_separation false true free = Some free
line_past_separation false true taken = Some free

-- ---- a piece outside flow

-- what is so after a piece outside flow: what may begin, and the open block collections
pub record Outside : Type 0 where
  pub line : Line
  pub blocks : List ℕ

-- where a key may begin, this holds after the piece, unless a key must begin here
abbrev pub unless_key : (must : Bool) → Line → List ℕ → Option Outside
unless_key true l bs = None
unless_key false l bs = Some (record { line = l; blocks = bs })

-- a colon ends the key that waits for it, within 1024 characters
abbrev pub is_near : (begin here : Position) → Bool
is_near begin here = nat_le (here.index) (begin.index + 1024)

-- at its colon a key's mapping is open
abbrev pub keyed : (begin here : Position) → List ℕ → Option Outside
keyed begin here bs = (if is_near begin here then Some (record { line = taken; blocks = opened begin.col bs }) else None)

-- A piece outside flow, at a position where these block collections go on. Where a key may begin, a node in the column of the innermost collection must be one.
abbrev pub line_past : (must : Bool) → (here : Position) → List ℕ → Act → (key : Bool) → Line → Option Outside
line_past must here bs gives_node true free = Some (record { line = waits here; blocks = bs })
line_past must here bs gives_node false free = unless_key must taken bs
line_past must here bs gives_node false taken = Some (record { line = taken; blocks = bs })
line_past must here bs gives_node false (waits begin) = Some (record { line = waits begin; blocks = bs })
-- a block scalar is no implicit key
line_past must here bs gives_block_scalar false free = unless_key must free bs
line_past must here bs gives_block_scalar false taken = Some (record { line = free; blocks = bs })
-- entries of sequences, and explicit and empty keys, begin where a key may
line_past must here bs gives_dash false free = Some (record { line = free; blocks = opened here.col bs })
line_past must here bs gives_question false free = Some (record { line = free; blocks = opened here.col bs })
line_past must here bs gives_colon false free = Some (record { line = free; blocks = opened here.col bs })
line_past must here bs gives_colon false (waits begin) = keyed begin here bs
-- A comma outside flow lets a key begin, a closing bracket does not. Ours: no grammar goes on after them, but their tokens are handed out.
line_past must here bs gives_comma false free = Some (record { line = free; blocks = bs })
line_past must here bs gives_comma false taken = Some (record { line = free; blocks = bs })
line_past must here bs gives_closing false free = Some (record { line = taken; blocks = bs })
line_past must here bs gives_closing false taken = Some (record { line = taken; blocks = bs })
line_past must here bs gives_marker false free = Some (record { line = taken; blocks = bs })
line_past must here bs gives_marker false taken = Some (record { line = taken; blocks = bs })
line_past must here bs _ _ _ = None
