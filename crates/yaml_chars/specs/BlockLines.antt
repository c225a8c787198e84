-- Lines of block collections whose characters are known to come: a key with its `:` is taken at once, and so is a value or another scalar with the line break after it.
use Rattle.std.specs.Prelude.{◌≡◌, ◌≢◌, ◌⊎◌, ℕ, zero, suc, ◌+◌, ◌<◌, ◌≤◌, List, [], ◌∷◌, ◌++◌, length, take, drop, slice_index, Bool, true, false, not, ◌==◌, ◌||◌, ◌&&◌, nat_eq, nat_lt}
use Rattle.yaml_chars.specs.Class.{is_alphanumeric}
use Rattle.yaml_chars.specs.WindowView.{WindowView, Reads}
use Rattle.yaml_chars.specs.Source.{Pulled}
use Rattle.yaml_chars.specs.Words.{Gives}
use Rattle.yaml_chars.specs.declared.block_line.LineKind.{LineKind}
use Rattle.yaml_chars.specs.declared.block_line.LineKind.TheVariants.{Key, Value, Node}
use Rattle.yaml_chars.specs.declared.block_line.BlockLine.{BlockLine as Taken}
use Rattle.yaml_chars.specs.declared.block_line.BlockLine.TheVariants as taken

-- a character that may stand inside a plain scalar of one line outside flow, whatever stands beside it: printable ASCII (a space too) but `:` and `#`
unfoldable pub is_simple : ℕ → Bool
is_simple c = nat_lt 31 c && (nat_lt c 127 && (not (c == 58) && not (c == 35)))

-- a character that a plain scalar may begin with, whatever comes after it: an ASCII letter or digit, or one of `_ / $ ( ~`
unfoldable pub opens_simple : ℕ → Bool
opens_simple c = is_alphanumeric c || (c == 95) || (c == 47) || (c == 36) || (c == 40) || (c == 126)

-- a plain scalar of one line outside flow, whatever stands before and after it
pub record IsSimpleText (text : List ℕ) : Type 0 where
  pub some : 0 < length text
  pub first : opens_simple (slice_index text 0) ≡ true
  pub inner : (k : ℕ) → k < length text → is_simple (slice_index text k) ≡ true
  pub last : (k : ℕ) → k + 1 ≡ length text → slice_index text k ≢ 32

-- so many spaces before a text
abbrev pub indented : ℕ → List ℕ → List ℕ
indented zero a = a
indented (suc n) a = 32 ∷ indented n a

-- a key and the `:` after it were read, and a space or a line feed stands next
pub record TakesKey {T : Type 0} (old new : WindowView T) (key : List ℕ) : Type 0 where
  pub reads : Reads old new (λ a b. (a ≡ key ++ 58 ∷ b) × (((slice_index b 0 == 32) || (slice_index b 0 == 10)) ≡ true))
  pub simple : IsSimpleText key
  pub short : length key ≤ 1024
  pub at : new.at ≡ old.at + length key + 1
  pub line : new.line ≡ old.line
  pub col : new.col ≡ old.col + length key + 1

-- What stands before a text, the text, the line feed after it and the next line's spaces were read, and a visible ASCII character stands next.
pub record TakesLine {T : Type 0} (before : List ℕ) (limit : ℕ) (old new : WindowView T) (text : List ℕ) : Type 0 where
  pub spaces : ℕ
  pub low : spaces < limit
  pub reads : Reads old new (λ a b. (a ≡ before ++ (text ++ 10 ∷ indented spaces b)) × ((nat_lt 32 (slice_index b 0) && nat_lt (slice_index b 0) 127) ≡ true))
  pub simple : IsSimpleText text
  pub at : new.at ≡ old.at + length before + length text + 1 + spaces
  pub line : new.line ≡ old.line + 1
  pub col : new.col ≡ spaces

-- a value after a space
abbrev pub TakesValue : {T : Type 0} → (limit : ℕ) → (old new : WindowView T) → (value : List ℕ) → Type 0
TakesValue limit old new value = TakesLine (32 ∷ []) limit old new value

-- a key, or another scalar of one line
abbrev pub TakesNode : {T : Type 0} → (limit : ℕ) → (old new : WindowView T) → Taken → Type 0
TakesNode limit old new (taken.Key key) = TakesKey old new key
TakesNode limit old new (taken.Scalar text) = TakesLine [] limit old new text

-- ---- the characters of a window, and the bytes that are known to come after them

-- so many of the bytes go on the text that begins in the window at a place, and it is simple
pub record IsTextUpTo (held : List ℕ) (from : ℕ) (bs : List ℕ) (n : ℕ) : Type 0 where
  pub within : n ≤ length bs
  pub begun : from ≤ length held
  pub bytes : (k : ℕ) → k < n → is_simple (slice_index bs k) ≡ true
  pub simple : IsSimpleText (drop from (held ++ take n bs))

-- a key ends after n bytes, and its `:` with a space or a line feed comes after it
pub record EndsKey (held bs : List ℕ) (n : ℕ) : Type 0 where
  pub text : IsTextUpTo held 0 bs n
  pub within : n + 1 < length bs
  pub colon : slice_index bs n ≡ 58
  pub next : ((slice_index bs (n + 1) == 32) || (slice_index bs (n + 1) == 10)) ≡ true
  pub short : length held + n ≤ 1024

-- a text that begins in the window at a place ends after n bytes, and a line feed, spaces and a visible character come after it
pub record EndsLine (from limit : ℕ) (held bs : List ℕ) (n spaces : ℕ) : Type 0 where
  pub text : IsTextUpTo held from bs n
  pub within : n + 1 + spaces < length bs
  pub lf : slice_index bs n ≡ 10
  pub blank : (k : ℕ) → k < spaces → slice_index bs (n + 1 + k) ≡ 32
  pub next : (nat_lt 32 (slice_index bs (n + 1 + spaces)) && nat_lt (slice_index bs (n + 1 + spaces)) 127) ≡ true
  pub low : spaces < limit

-- a part ends after n bytes, with so many spaces in the line after it
abbrev pub Ends : LineKind → (held bs : List ℕ) → (n spaces : ℕ) → Type 0
Ends Key held bs n spaces = EndsKey held bs n × (spaces ≡ 0)
Ends (Value limit) held bs n spaces = (slice_index held 0 ≡ 32) × EndsLine 1 limit held bs n spaces
Ends (Node limit) held bs n spaces = (EndsKey held bs n × (spaces ≡ 0)) ⊎ EndsLine 0 limit held bs n spaces

-- where a part's text begins in the window
abbrev pub begin : LineKind → ℕ
begin Key = 0
begin (Value limit) = 1
begin (Node limit) = 0

-- a part came from a source, with the character after it
pub record GivesPart {T : Type 0} (part : LineKind) (held : List ℕ) (old new : Pulled T) (n : ℕ) (broken : Bool) (spaces c : ℕ) (text : List ℕ) : Type 0 where
  pub going : old.done ≡ false
  pub known : List ℕ
  pub ends : Ends part held known n spaces
  pub gives : Gives old new (take (n + 1 + spaces + 1) known)
  pub broke : broken ≡ (slice_index known n == 10)
  pub next : c ≡ slice_index known (n + 1 + spaces)
  pub joined : text ≡ drop (begin part) (held ++ take n known)

-- ---- sixteen bytes at a time

-- a byte that is not simple
abbrev pub halts_simple : ℕ → Bool
halts_simple c = ((nat_lt c 32 || nat_lt 126 c) || nat_eq c 58) || nat_eq c 35

-- the first n bytes are simple
pub record AreSimpleUpTo (bs : List ℕ) (n : ℕ) : Type 0 where
  pub within : n ≤ length bs
  pub inner : (k : ℕ) → k < n → is_simple (slice_index bs k) ≡ true
