-- What clauses see of a window, and how they speak of the text after it.
use Rattle.std.specs.Prelude.{◌≡◌, ◌≢◌, ℕ, ◌+◌, ◌-◌, ◌^◌, ◌<◌, ◌≤◌, Bool, true, false, List, length, take, drop, slice_index, Option, ◌==◌, if◌then◌else◌}
use Rattle.std.specs.Iterator.{YieldsThen}
use Rattle.defs_text.specs.Position.{Position}
use Rattle.yaml_chars.specs.Source.{Pulled, CameFrom, IsEnd}

-- the iterator as it was, the characters that were taken from it and whether they are all; how many of these were read, and how many positions are in the window; the mark; and how many characters may still be read
pub record WindowView (T : Type 0) : Type 0 where
  pub start : T
  pub taken : List ℕ
  pub done : Bool
  pub at : ℕ
  pub ahead : ℕ
  pub left : ℕ
  pub line : ℕ
  pub col : ℕ

-- where it stands
abbrev pub position_of : {T : Type 0} → WindowView T → Position
position_of s = record { index = s.at; line = s.line; col = s.col }

-- w may be the whole text
pub record Possible {T : Type 0} (s : WindowView T) (w : List ℕ) : Type 0 where
  pub begins : take (length s.taken) w ≡ s.taken
  pub ends : s.done ≡ true → w ≡ s.taken

-- P holds of the text that is left, whatever the whole text is
pub record Sees {T : Type 0} (s : WindowView T) (P : List ℕ → Type 0) : Type 0 where
  pub sees : (w : List ℕ) → Possible s w → P (drop s.at w)

-- P holds of the text that was left and the text that is left now, whatever the whole text is
pub record Reads {T : Type 0} (old new : WindowView T) (P : List ℕ → List ℕ → Type 0) : Type 0 where
  pub start : new.start ≡ old.start
  pub at : old.at ≤ new.at
  pub left : new.at + new.left ≤ old.at + old.left
  pub back : (w : List ℕ) → Possible new w → Possible old w
  pub reads : (w : List ℕ) → Possible new w → P (drop old.at w) (drop new.at w)

-- the front of the window is a character of the text
abbrev pub HasChar : {T : Type 0} → WindowView T → Type 0
HasChar s = s.at < length s.taken

-- the same position in the text, with at least as much in the window
pub record SamePosition {T : Type 0} (old new : WindowView T) : Type 0 where
  pub at : new.at ≡ old.at
  pub line : new.line ≡ old.line
  pub col : new.col ≡ old.col
  pub ahead : old.ahead ≤ new.ahead

-- one character on in a line
pub record OneOn {T : Type 0} (old new : WindowView T) : Type 0 where
  pub at : new.at ≡ old.at + 1
  pub line : new.line ≡ old.line
  pub col : new.col ≡ old.col + 1
  pub less : new.left < old.left

-- no character is a NUL
abbrev pub HasNoNul : List ℕ → Type 0
HasNoNul cs = (k : ℕ) → k < length cs → slice_index cs k ≢ 0

-- a window and its source agree
pub record Fills {T : Type 0} (source : Pulled T) (ring : List ℕ) (at line col : ℕ) : Type 0 where
  pub window : (k : ℕ) → k < length ring → slice_index ring k ≡ slice_index source.taken (at + k)
  pub going : source.done ≡ false → at + length ring ≡ length source.taken
  pub ended : source.done ≡ true → length source.taken ≤ at + length ring
  pub within : at ≤ length source.taken
  pub no_nul : HasNoNul source.taken
  pub room : length source.taken + source.left < 2 ^ 63
  pub lines : line + col ≤ at + 1
  pub cols : col ≤ at

-- the state after one character
abbrev pub after_char : {T : Type 0} → WindowView T → WindowView T
after_char s = record s { at = s.at + 1; ahead = s.ahead - 1; left = s.left - 1; col = s.col + 1 }

-- the state after a line break
abbrev pub after_break : {T : Type 0} → WindowView T → WindowView T
after_break s = record s { at = s.at + 1; ahead = s.ahead - 1; left = s.left - 1; line = s.line + 1; col = 0 }

-- the state at the beginning of the next line, where the text has ended within a line
abbrev pub after_line : {T : Type 0} → WindowView T → WindowView T
after_line s = (if s.col == 0 then s else record s { line = s.line + 1; col = 0 })

-- cs is the whole text: the iterator gave it, and then its end or a NUL
pub record IsText {T : Type 0} (steps : T → Option ℕ → T → Type 0) (it : T) (cs : List ℕ) : Type 0 where
  pub ends : (o : Option ℕ) × (t : T) × YieldsThen steps it cs o t × IsEnd o
  pub no_nul : HasNoNul cs

-- what the iterator gave is so much of a text that P holds, whatever comes after it
pub record BeginsText {T : Type 0} (steps : T → Option ℕ → T → Type 0) (it : T) (P : List ℕ → Type 0) : Type 0 where
  pub taken : List ℕ
  pub done : Bool
  pub came : CameFrom steps it taken done
  pub no_nul : HasNoNul taken
  pub holds : (w : List ℕ) → take (length taken) w ≡ taken → (done ≡ true → w ≡ taken) → P w
