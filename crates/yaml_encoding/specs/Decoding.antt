-- From bytes to text: the encoding, the characters and malformations of an input, and what each trap makes of them.
-- WHATWG Encoding, sections 4.2 (byte order marks), 8.1.1 (UTF-8) and 14.4 (UTF-16); RFC 3629, section 4 (UTF-8); YAML 1.2, section 5.2 (the encoding of a stream without a mark).
use Rattle.std.specs.Prelude.{◌≡◌, ℕ, zero, suc, pred, ◌+◌, ◌-◌, ◌*◌, ◌⊎◌, List, [], ◌∷◌, ◌++◌, Bool, true, false, ◌&&◌, ◌==◌, nat_le, if◌then◌else◌, take, drop, Option, Some, None, codes, decimal}

-- whether a byte or a unit lies between two others, both included
abbrev pub is_between : ℕ → ℕ → ℕ → Bool
is_between low high n = nat_le low n && nat_le n high

-- ---- the encoding

-- the encodings that are read
pub data Encoding : Type 0 where
  utf_8 : Encoding
  utf_16_little : Encoding
  utf_16_big : Encoding

-- an input's encoding, and how many bytes its byte order mark has
pub record Chosen : Type 0 where
  pub encoding : Encoding
  pub mark : ℕ

-- whether an input begins with these bytes
abbrev pub begins : List ℕ → List ℕ → Bool
begins [] bs = true
begins (m ∷ ms) [] = false
begins (m ∷ ms) (b ∷ bs) = (m == b) && begins ms bs

-- without a mark, the first two bytes choose if just one of them is 0
unfoldable pub unmarked : List ℕ → Encoding
unmarked (a ∷ b ∷ r) = (if a == b then utf_8 else (if a == 0 then utf_16_big else (if b == 0 then utf_16_little else utf_8)))
unmarked _ = utf_8

-- the encoding of an input: by its byte order mark, or by its first two bytes
unfoldable pub chosen : List ℕ → Chosen
chosen bytes =
    (if begins (0xEF ∷ 0xBB ∷ 0xBF ∷ []) bytes then record { encoding = utf_8; mark = 3 } else
    (if begins (0xFF ∷ 0xFE ∷ []) bytes then record { encoding = utf_16_little; mark = 2 } else
    (if begins (0xFE ∷ 0xFF ∷ []) bytes then record { encoding = utf_16_big; mark = 2 } else
    record { encoding = unmarked bytes; mark = 0 })))

-- ---- sequences

-- What an input begins with: how many bytes it takes, the character that they mean, none for a malformation, and for that how many bytes after it were looked at.
pub record Sequence : Type 0 where
  pub bytes : ℕ
  pub character : Option ℕ
  pub ahead : ℕ

-- a sequence of this number of bytes that encodes a character
abbrev pub means : (bytes code : ℕ) → Sequence
means n c = record { bytes = n; character = Some c; ahead = 0 }

-- a malformation of this number of bytes, with a number of further bytes looked at
abbrev pub malformed : (bytes ahead : ℕ) → Sequence
malformed n a = record { bytes = n; character = None; ahead = a }

-- ---- UTF-8

-- the bytes that may stand at one position of a sequence
pub record Range : Type 0 where
  pub low : ℕ
  pub high : ℕ

-- the bits of a first byte, and the ranges of the bytes after it
pub record Start : Type 0 where
  pub bits : ℕ
  pub after : List Range

-- 80 to BF
abbrev pub any_trail : Range
any_trail = record { low = 0x80; high = 0xBF }

-- The well-formed sequences, by their first byte; no sequence begins with another.
unfoldable pub start_of : ℕ → Option Start
start_of b =
    (if is_between 0x00 0x7F b then Some (record { bits = b; after = [] }) else
    (if is_between 0xC2 0xDF b then Some (record { bits = b - 0xC0; after = any_trail ∷ [] }) else
    (if is_between 0xE0 0xE0 b then Some (record { bits = b - 0xE0; after = record { low = 0xA0; high = 0xBF } ∷ any_trail ∷ [] }) else
    (if is_between 0xE1 0xEC b then Some (record { bits = b - 0xE0; after = any_trail ∷ any_trail ∷ [] }) else
    (if is_between 0xED 0xED b then Some (record { bits = b - 0xE0; after = record { low = 0x80; high = 0x9F } ∷ any_trail ∷ [] }) else
    (if is_between 0xEE 0xEF b then Some (record { bits = b - 0xE0; after = any_trail ∷ any_trail ∷ [] }) else
    (if is_between 0xF0 0xF0 b then Some (record { bits = b - 0xF0; after = record { low = 0x90; high = 0xBF } ∷ any_trail ∷ any_trail ∷ [] }) else
    (if is_between 0xF1 0xF3 b then Some (record { bits = b - 0xF0; after = any_trail ∷ any_trail ∷ any_trail ∷ [] }) else
    (if is_between 0xF4 0xF4 b then Some (record { bits = b - 0xF0; after = record { low = 0x80; high = 0x8F } ∷ any_trail ∷ any_trail ∷ [] }) else None)))))))))

-- The sequence whose bytes so far are so many with these bits: each byte in its range adds six bits; where one is not, the bytes before it are a malformation.
abbrev pub sequence_from : (bytes bits : ℕ) → List Range → List ℕ → Sequence
sequence_from n bits [] r = means n bits
sequence_from n bits (range ∷ ranges) [] = malformed n 0
sequence_from n bits (range ∷ ranges) (b ∷ r) = (if is_between (range.low) (range.high) b then sequence_from (suc n) (bits * 64 + (b - 0x80)) ranges r else malformed n 0)

-- the sequence that a first byte begins
abbrev pub sequence_by : Option Start → List ℕ → Sequence
sequence_by None r = malformed 1 0
sequence_by (Some s) r = sequence_from 1 (s.bits) (s.after) r

-- What a byte and those after it begin with in UTF-8. A malformation is the longest beginning of a sequence that is not whole, else one byte.
abbrev pub utf_8_sequence : ℕ → List ℕ → Sequence
utf_8_sequence b r = sequence_by (start_of b) r

-- ---- UTF-16

-- whether a unit is the first of two
unfoldable pub is_lead : ℕ → Bool
is_lead u = is_between 0xD800 0xDBFF u

-- whether a unit is the second of two
unfoldable pub is_trail : ℕ → Bool
is_trail u = is_between 0xDC00 0xDFFF u

-- the character of two units
abbrev pub of_two_units : (lead trail : ℕ) → ℕ
of_two_units u v = 0x10000 + ((u - 0xD800) * 0x400 + (v - 0xDC00))

-- a unit of two bytes, its lesser byte first
abbrev pub little : ℕ → ℕ → ℕ
little a b = b * 256 + a

-- the same, its greater byte first
abbrev pub big : ℕ → ℕ → ℕ
big a b = a * 256 + b

-- two units: a character if the second is a trail surrogate
abbrev pub pair_by : Bool → (lead next : ℕ) → Sequence
pair_by true u v = means 4 (of_two_units u v)
pair_by false u v = malformed 2 2

-- A lead surrogate: with a trail it is a character; before another unit it is a malformation, and that unit is read again; at the end it is a malformation together with an odd last byte.
abbrev pub led : (ℕ → ℕ → ℕ) → (lead : ℕ) → List ℕ → Sequence
led unit u [] = malformed 2 0
led unit u (a ∷ []) = malformed 3 0
led unit u (a ∷ b ∷ r) = pair_by (is_trail (unit a b)) u (unit a b)

-- what a unit and the bytes after it begin with
abbrev pub unit_sequence : (ℕ → ℕ → ℕ) → (u : ℕ) → List ℕ → Sequence
unit_sequence unit u r = (if is_lead u then led unit u r else (if is_trail u then malformed 2 0 else means 2 u))

-- What a byte and those after it begin with in UTF-16. A trail surrogate alone and an odd byte at the end are malformations.
abbrev pub utf_16_sequence : (ℕ → ℕ → ℕ) → ℕ → List ℕ → Sequence
utf_16_sequence unit a [] = malformed 1 0
utf_16_sequence unit a (b ∷ r) = unit_sequence unit (unit a b) r

-- ---- an input as characters and malformations

-- A character, or a malformation: its position in the input, its length in bytes, how many bytes after it were looked at, and the input from it on.
pub data Part : Type 0 where
  character : (code : ℕ) → Part
  malformation : (position bytes ahead : ℕ) → (input : List ℕ) → Part

-- a part of an input, by the character that it means
abbrev pub part_by : (position : ℕ) → (input : List ℕ) → (bytes ahead : ℕ) → Option ℕ → Part
part_by position input n a (Some c) = character c
part_by position input n a None = malformation position n a input

-- the part that a sequence at a position is
abbrev pub part_of : (position : ℕ) → (input : List ℕ) → Sequence → Part
part_of position input s = part_by position input (s.bytes) (s.ahead) (s.character)

-- the parts of an input from a position on, after so many bytes that belong to the part before
abbrev pub parts_from : (ℕ → List ℕ → Sequence) → (belonging position : ℕ) → List ℕ → List Part
parts_from at n position [] = []
parts_from at (suc n) position (b ∷ r) = parts_from at n (suc position) r
parts_from at zero position (b ∷ r) = part_of position (b ∷ r) (at b r) ∷ parts_from at (pred ((at b r).bytes)) (suc position) r

-- how an encoding's sequences are read
abbrev pub reading : Encoding → ℕ → List ℕ → Sequence
reading utf_8 = utf_8_sequence
reading utf_16_little = utf_16_sequence little
reading utf_16_big = utf_16_sequence big

-- the parts of an input in an encoding, after its mark
abbrev pub parts_by : Chosen → List ℕ → List Part
parts_by c bytes = parts_from (reading (c.encoding)) 0 (c.mark) (drop (c.mark) bytes)

-- The characters and malformations of an input, in its own encoding and after its byte order mark.
abbrev pub parts : List ℕ → List Part
parts bytes = parts_by (chosen bytes) bytes

-- ---- traps

-- a text, or a stop with its message
pub data Outcome : Type 0 where
  text : List ℕ → Outcome
  stopped : (message : List ℕ) → Outcome

-- numbers in decimal, separated by a comma and a space
abbrev pub listed : List ℕ → List ℕ
listed [] = []
listed (n ∷ []) = decimal n
listed (n ∷ ns) = decimal n ++ codes ", " ++ listed ns

-- the message of a malformation: its position, and its bytes
abbrev pub message : (position bytes : ℕ) → (input : List ℕ) → List ℕ
message position n input = codes "Invalid character sequence at " ++ decimal position ++ codes ": [" ++ listed (take n input) ++ codes "]"

-- a malformation adds nothing
abbrev pub ignored : List Part → List ℕ
ignored [] = []
ignored (character c ∷ ps) = c ∷ ignored ps
ignored (malformation position n a input ∷ ps) = ignored ps

-- a malformation adds U+FFFD
abbrev pub replaced : List Part → List ℕ
replaced [] = []
replaced (character c ∷ ps) = c ∷ replaced ps
replaced (malformation position n a input ∷ ps) = 0xFFFD ∷ replaced ps

-- a character before an outcome
abbrev pub put_before : ℕ → Outcome → Outcome
put_before c (text cs) = text (c ∷ cs)
put_before c (stopped m) = stopped m

-- the first malformation stops
abbrev pub strict : List Part → Outcome
strict [] = text []
strict (character c ∷ ps) = put_before c (strict ps)
strict (malformation position n a input ∷ ps) = stopped (message position n input)

-- what a function that is called at a malformation answers: to go on with a text in place of that so far, or to stop with a message
pub data Answer : Type 0 where
  go_on : (new_text : List ℕ) → Answer
  break : (message : List ℕ) → Answer

-- The steps that a function allows: from a malformation's length, how many bytes after it were looked at, the input from it on, and the text so far, to an answer.
abbrev pub Steps : Type 1
Steps = (bytes ahead : ℕ) → (input text_so_far : List ℕ) → Answer → Type 0

-- a stop with the empty text has the message of the malformation
abbrev pub message_or : List ℕ → (position bytes : ℕ) → (input : List ℕ) → List ℕ
message_or [] position n input = message position n input
message_or (c ∷ m) position n input = c ∷ m

-- Whether an outcome comes of the parts after a text so far, where at each malformation, in order, one step of the function is taken.
abbrev pub IsCalled : Steps → List Part → (text_so_far : List ℕ) → Outcome → Type 0
IsCalled step [] so_far outcome = outcome ≡ text so_far
IsCalled step (character c ∷ ps) so_far outcome = IsCalled step ps (so_far ++ (c ∷ [])) outcome
IsCalled step (malformation position n a input ∷ ps) so_far outcome =
    ((next : List ℕ) × step n a input so_far (go_on next) × IsCalled step ps next outcome) ⊎
    ((m : List ℕ) × step n a input so_far (break m) × (outcome ≡ stopped (message_or m position n input)))

-- Whether an outcome is one of decoding an input with a function that is called at each malformation.
abbrev pub IsDecodedByCalls : Steps → (bytes : List ℕ) → Outcome → Type 0
IsDecodedByCalls step bytes outcome = IsCalled step (parts bytes) [] outcome
