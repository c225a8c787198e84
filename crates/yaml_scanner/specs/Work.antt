-- A bound on the tokens that may still be handed out: those that wait, an end for each level of indentation, and
-- what the characters to come may bring.
use Rattle.std.specs.Prelude.{◌≡◌, ℕ, ◌+◌, ◌*◌, ◌≤◌, Bool, length, if◌then◌else◌}
use Rattle.yaml_chars.specs.WindowView.{WindowView}
use Rattle.yaml_scanner.specs.Tokens.{waiting, handed}
use Rattle.yaml_scanner.specs.declared.fetcher.Fetcher.{Fetcher}

abbrev pub unset : Bool → ℕ
unset b = (if b then 0 else 2)

abbrev pub work : {T : Type 0} → Fetcher T → ℕ
work s = waiting s.tokens + length s.levels.indents + 8 * s.window.left + unset s.started + unset s.tokens.ended

-- What was handed out stays, and so do start, end and backlog; the bound grows by at most so much, and falls by at least so much.
pub record Moves {T : Type 0} (old new : Fetcher T) (up down : ℕ) : Type 0 where
  pub bound : work new + down ≤ work old + up
  pub given : handed new.tokens ≡ handed old.tokens
  pub start : new.started ≡ old.started
  pub stop : new.tokens.ended ≡ old.tokens.ended
  pub over : new.tokens.over ≡ old.tokens.over
  pub fault : new.kept ≡ old.kept
  pub backlog : new.backlog ≡ old.backlog

-- A fetch hands nothing out and keeps no fault.
pub record Fetches {T : Type 0} (old new : Fetcher T) : Type 0 where
  pub given : handed new.tokens ≡ handed old.tokens
  pub over : new.tokens.over ≡ old.tokens.over
  pub fault : new.kept ≡ old.kept
  pub backlog : new.backlog ≡ old.backlog

-- The same of several fetches, by which tokens may come to wait for which there is no room.
pub record Fills {T : Type 0} (old new : Fetcher T) : Type 0 where
  pub given : handed new.tokens ≡ handed old.tokens
  pub over : new.tokens.over ≡ old.tokens.over
  pub fault : new.kept ≡ old.kept

-- so many characters of the text come
abbrev pub HasChars : {T : Type 0} → ℕ → WindowView T → Type 0
HasChars n s = s.at + n ≤ length s.taken
