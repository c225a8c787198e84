-- Where the scanner's model stands in a text.
use Rattle.std.specs.Prelude.{◌≡◌, ℕ, List, [], ◌++◌, true, false}
use Rattle.defs_text.specs.Position.{Position, first_position, position_after}
use Rattle.defs_text.specs.Text.{is_empty}
use Rattle.model_scanner.specs.State.{Held, ScannerState}
use Rattle.model_scanner.specs.Document.{next_line}

-- a position in a text, before the rest of it
pub record IsPositionIn (text rest : List ℕ) (p : Position) : Type 0 where
  pub before : List ℕ
  pub is_text : text ≡ before ++ rest
  pub is_position : p ≡ position_after first_position before rest

-- After the stream's end: its start was met, and the position is where a line begins, after the whole text.
pub record IsAtEnd (text : List ℕ) (h : Held) : Type 0 where
  pub began : h.started ≡ true
  pub position : h.position ≡ next_line (position_after first_position text [])

-- where a run has come to in a text
pub record IsWhere (text : List ℕ) (t : ScannerState) : Type 0 where
  pub going : t.held.ended ≡ false → IsPositionIn text t.rest t.held.position
  pub over : t.held.ended ≡ true → t.held.position ≡ next_line (position_after first_position text [])
  -- the stream's start was met just where there are tokens
  pub none : t.held.started ≡ false → t.held.tokens ≡ []
  pub some : t.held.started ≡ true → is_empty t.held.tokens ≡ false
