-- Tokens that wait: those that were read while a key may still come before the first of them.
use Rattle.std.specs.Prelude.{◌≡◌, ℕ, ◌+◌, List, Bool, true, false, ◌==◌, Option, Some, None, length}
use Rattle.std.specs.List.{list_any}
use Rattle.defs_text.specs.Position.{Position}
use Rattle.model_scanner.specs.State.{Key, ScannerState}
use Rattle.model_scanner.specs.Run.{Reaches, start}

-- whether a key may come before the token with this number
abbrev pub comes_before : ℕ → Option Key → Bool
comes_before n None = false
comes_before n (Some k) = k.number == n

-- In a text, where it is read up to a position, so many tokens wait: a key may still come before a token, and with it so many were read.
pub record Waits (text : List ℕ) (here : Position) (count : ℕ) : Type 0 where
  pub last : ScannerState
  pub run : Reaches (start text) last
  pub going : last.held.ended ≡ false
  pub is_here : last.held.position ≡ here
  pub before : ℕ
  pub may : list_any (comes_before before) last.held.keys ≡ true
  pub tokens : before + count ≡ length last.held.tokens
