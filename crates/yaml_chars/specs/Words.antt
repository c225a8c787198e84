-- Characters of a line that are known to come, and are taken at once: words, and lone blanks between them.
use Rattle.std.specs.Prelude.{◌≡◌, ℕ, ◌+◌, ◌<◌, ◌≤◌, List, [], ◌∷◌, ◌++◌, length, slice_index, Bool, true, false, not, cond, ◌==◌, ◌||◌, ◌&&◌, nat_eq, nat_lt, ◌≢◌}
use Rattle.defs_text.specs.Position.{Position}
use Rattle.yaml_chars.specs.Class.{is_blank}
use Rattle.yaml_chars.specs.Run.{stops}
use Rattle.yaml_chars.specs.Source.{Pulled}
use Rattle.yaml_chars.specs.declared.run.Run.{Run}
use Rattle.yaml_chars.specs.declared.run.Run.TheVariants.{Line, Quoted, Plain}

-- a character after a lone blank with which a word goes on, whatever comes after it: in a plain scalar no indicator of a flow collection, no `#` and no `-`
unfoldable pub begins_word : Run → ℕ → Bool
begins_word Line c = not (stops Line c)
begins_word (Quoted quote) c = not (stops (Quoted quote) c)
begins_word (Plain flow) c = not (stops (Plain true) c) && not (c == 35) && not (c == 45)

-- a character of a word, or a blank before a word, by the character after it
abbrev pub is_in_words : Run → ℕ → ℕ → Bool
is_in_words run c next = not (stops run c) || (is_blank c && begins_word run next)

-- characters of words and lone blanks between these
abbrev pub are_words : Run → List ℕ → Bool
are_words run [] = true
are_words run (c ∷ cs) = is_in_words run c (slice_index cs 0) && are_words run cs

-- whether a character outside ASCII may end a run: where its quote is one
abbrev pub stops_beyond : Run → Bool
stops_beyond Line = false
stops_beyond (Quoted quote) = not (nat_lt quote 128)
stops_beyond (Plain flow) = false

-- whether a byte of a text may be of a character that ends a run
unfoldable pub stops_byte : Run → ℕ → Bool
stops_byte run b = cond (nat_lt b 128) (stops run b) (stops_beyond run)

-- whether a byte after a lone blank is of a character with which a word goes on
unfoldable pub begins_byte : Run → ℕ → Bool
begins_byte run b = cond (nat_lt b 128) (begins_word run b) (not (stops_beyond run))

-- a byte of a character of a word, or a blank before a word, by the byte after it
abbrev pub is_word_byte : Run → ℕ → ℕ → Bool
is_word_byte run b next = not (stops_byte run b) || (is_blank b && begins_byte run next)

-- the first n bytes are of characters of words and lone blanks between these
pub record AreWordsUpTo (run : Run) (bs : List ℕ) (n : ℕ) : Type 0 where
  pub within : n ≤ length bs
  pub inner : (k : ℕ) → k + 1 < n → is_word_byte run (slice_index bs k) (slice_index bs (k + 1)) ≡ true
  pub last : (k : ℕ) → k + 1 ≡ n → stops_byte run (slice_index bs k) ≡ false

-- the bytes from one place to another are of characters of a word
pub record IsWordBetween (run : Run) (bs : List ℕ) (from to : ℕ) : Type 0 where
  pub after : from ≤ to
  pub within : to ≤ length bs
  pub inner : (k : ℕ) → from ≤ k → k < to → stops_byte run (slice_index bs k) ≡ false

-- the bytes from one place to another are ASCII
abbrev pub AreAscii : List ℕ → (from to : ℕ) → Type 0
AreAscii bs from to = (k : ℕ) → from ≤ k → k < to → slice_index bs k < 128

-- the byte at a place is ASCII, if there is one and the run may have gone on with a byte outside ASCII
abbrev pub EndsAtAscii : Run → List ℕ → ℕ → Type 0
EndsAtAscii run bs n = stops_beyond run ≡ false → n < length bs → slice_index bs n < 128

-- these characters came from a source
pub record Gives {T : Type 0} (old new : Pulled T) (part : List ℕ) : Type 0 where
  pub start : new.start ≡ old.start
  pub taken : new.taken ≡ old.taken ++ part
  pub done : new.done ≡ old.done
  pub none : old.done ≡ true → part ≡ []
  pub left : new.left + length part ≤ old.left

-- so many characters of words came from a source, and went into a text
pub record GivesWords {T : Type 0} (run : Run) (old new : Pulled T) (n : ℕ) (before after : List ℕ) : Type 0 where
  pub part : List ℕ
  pub count : length part ≡ n
  pub words : are_words run part ≡ true
  pub gives : Gives old new part
  pub text : after ≡ before ++ part

-- so many characters of words came from a source
abbrev pub HasGiven : {T : Type 0} → Run → Pulled T → Pulled T → ℕ → Type 0
HasGiven run old new n = (part : List ℕ) × GivesWords run old new n [] part

-- words were read of the text that was left, and went into a text
pub record TakesWords (run : Run) (a b : List ℕ) (p q : Position) (before after : List ℕ) : Type 0 where
  pub part : List ℕ
  pub split : a ≡ part ++ b
  pub words : are_words run part ≡ true
  pub position : q ≡ record { index = p.index + length part; line = p.line; col = p.col + length part }
  pub text : after ≡ before ++ part

-- words were read of the text that was left
abbrev pub PassesWords : Run → List ℕ → List ℕ → Position → Position → Type 0
PassesWords run a b p q = (part : List ℕ) × TakesWords run a b p q [] part

-- ---- sixteen bytes at a time

-- A byte where words do not surely go on, by the byte after it: a blank, an ASCII control character, or one of two marks. After a blank
-- they do before a byte outside ASCII, a digit, a letter or one of `;<=>?@^_|~` and the grave accent.
abbrev pub halts : (first second : ℕ) → ℕ × ℕ → Bool
halts first second x =
    (((nat_lt x.0 33 || nat_eq x.0 127) || nat_eq x.0 first) || nat_eq x.0 second)
    && (((((((not (nat_eq x.0 32) || nat_lt x.1 48) || nat_eq x.1 58) || nat_eq x.1 91) || nat_eq x.1 92) || nat_eq x.1 93) || nat_eq x.1 123) || nat_eq x.1 125)

-- each byte with the one after it
abbrev pub pairs : List ℕ → List ℕ → List (ℕ × ℕ)
pairs [] ys = []
pairs (x ∷ xs) [] = []
pairs (x ∷ xs) (y ∷ ys) = (x, y) ∷ pairs xs ys

-- a byte that is an ASCII control character
abbrev pub halts_line : ℕ → Bool
halts_line c = nat_lt c 32 || nat_eq c 127

-- a byte outside ASCII
abbrev pub is_beyond : ℕ → Bool
is_beyond c = nat_lt 127 c

-- a byte with which a character begins: every other one is from 128 to 191
abbrev pub is_first_byte : ℕ → Bool
is_first_byte c = nat_lt c 128 || nat_lt 191 c

-- the bytes from one place to another are of characters of words and lone blanks between these
pub record AreWordsBetween (run : Run) (bs : List ℕ) (from to : ℕ) : Type 0 where
  pub after : from ≤ to
  pub within : to ≤ length bs
  pub inner : (k : ℕ) → from ≤ k → k + 1 < to → is_word_byte run (slice_index bs k) (slice_index bs (k + 1)) ≡ true
  pub last : (k : ℕ) → from ≤ k → k + 1 ≡ to → stops_byte run (slice_index bs k) ≡ false

-- a byte with which words go on, by the byte after it
pub record Goes (run : Run) (c d : ℕ) : Type 0 where
  pub word : c ≢ 32 → stops_byte run c ≡ false
  pub blank : c ≡ 32 → is_word_byte run c d ≡ true

-- words go on with so many bytes
abbrev pub LanesGo : Run → List ℕ → (at n : ℕ) → Type 0
LanesGo run bs at n = (k : ℕ) → k < n → Goes run (slice_index bs (at + k)) (slice_index bs (at + 1 + k))
