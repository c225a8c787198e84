-- Tags as they are written, their handles, prefixes and suffixes, and the escaped octets of a URI.
-- YAML 1.2, sections 5.6, 6.8.2 (tag directives) and 6.9.1 (node tags); RFC 3629, section 3 (UTF-8).
use Rattle.std.specs.Prelude.{ℕ, zero, suc, ◌+◌, ◌-◌, ◌*◌, List, [], ◌∷◌, ◌++◌, Bool, true, false, ◌&&◌, ◌==◌, nat_le, if◌then◌else◌, drop, Option, Some, None, Result, Ok, Err, codes}
use Rattle.std.specs.Char.{digit_value, is_digit}
use Rattle.defs_text.specs.Classes.{is_between, is_alpha, is_uri, is_tag}
use Rattle.defs_text.specs.FlowScalar.{is_character_code}

-- ---- texts

-- whether each character of a text is of a class
abbrev pub all_of : (ℕ → Bool) → List ℕ → Bool
all_of p [] = true
all_of p (c ∷ r) = p c && all_of p r

-- the characters of a class that a text begins with
abbrev pub leading : (ℕ → Bool) → List ℕ → List ℕ
leading p [] = []
leading p (c ∷ r) = (if p c then c ∷ leading p r else [])

-- what stands after them
abbrev pub after : (ℕ → Bool) → List ℕ → List ℕ
after p [] = []
after p (c ∷ r) = (if p c then after p r else c ∷ r)

-- whether two texts are equal
abbrev pub is_same : List ℕ → List ℕ → Bool
is_same [] [] = true
is_same (c ∷ r) (d ∷ s) = (c == d) && is_same r s
is_same _ _ = false

-- ---- escaped octets

-- why a URI's escapes are no characters
pub data UriFault : Type 0 where
  -- a percent sign without two hexadecimal digits; or another octet must follow, and none does
  no_octet : UriFault
  -- an octet with which no character begins
  wrong_lead : UriFault
  -- an octet with which no character goes on
  wrong_trail : UriFault
  -- an overlong form, a surrogate, or a code above U+10FFFF
  no_character : UriFault

-- the number of two hexadecimal digits, if they are
abbrev pub octet_by : Bool → ℕ → ℕ → Option ℕ
octet_by true a b = Some (digit_value a * 16 + digit_value b)
octet_by false a b = None

-- the octet that a percent sign and two hexadecimal digits write at a text's start
unfoldable pub octet_at : List ℕ → Option ℕ
octet_at (p ∷ a ∷ b ∷ r) = octet_by ((p == 37) && is_digit a 16 && is_digit b 16) a b
octet_at _ = None

-- What a character's first octet says: how many more there are, the bits that belong to the code, and the least code that needs so many.
pub record Lead : Type 0 where
  pub further : ℕ
  pub bits : ℕ
  pub least : ℕ

-- a first octet: `0xxxxxxx`, `110xxxxx`, `1110xxxx`, or `11110xxx`
unfoldable pub lead_of : ℕ → Option Lead
lead_of o =
    (if is_between 0x00 0x7F o then Some (record { further = 0; bits = o; least = 0 }) else
    (if is_between 0xC0 0xDF o then Some (record { further = 1; bits = o - 0xC0; least = 0x80 }) else
    (if is_between 0xE0 0xEF o then Some (record { further = 2; bits = o - 0xE0; least = 0x800 }) else
    (if is_between 0xF0 0xF7 o then Some (record { further = 3; bits = o - 0xF0; least = 0x10000 }) else None))))

-- whether an octet is `10xxxxxx`
unfoldable pub is_trail : ℕ → Bool
is_trail o = is_between 0x80 0xBF o

-- a code with the six bits of a trailing octet after it
abbrev pub with_trail : ℕ → ℕ → ℕ
with_trail code o = code * 64 + (o - 0x80)

-- a trailing octet's bits, and what goes on with them
abbrev pub trail_by : Option ℕ → ℕ → (ℕ → Result ℕ UriFault) → Result ℕ UriFault
trail_by None code on = Err no_octet
trail_by (Some o) code on = (if is_trail o then on (with_trail code o) else Err wrong_trail)

-- the code that this number of trailing octets at a text's start completes
abbrev pub trails : (further : ℕ) → (code : ℕ) → List ℕ → Result ℕ UriFault
trails zero code r = Ok code
trails (suc n) code r = trail_by (octet_at r) code (λ code'. trails n code' (drop 3 r))

-- a character's code, and how many characters of text after the first spell it
pub record Escaped : Type 0 where
  pub code : ℕ
  pub further : ℕ

-- a character of UTF-8, if its code is one and needs this many octets
abbrev pub checked : Lead → Result ℕ UriFault → Result Escaped UriFault
checked l (Err f) = Err f
checked l (Ok code) = (if nat_le l.least code && is_character_code code then Ok (record { code = code; further = 2 + 3 * l.further }) else Err no_character)

-- the character that a first octet begins
abbrev pub led_by : Option Lead → List ℕ → Result Escaped UriFault
led_by None r = Err wrong_lead
led_by (Some l) r = checked l (trails l.further l.bits (drop 3 r))

-- the character whose first octet stands here
abbrev pub begun_by : Option ℕ → List ℕ → Result Escaped UriFault
begun_by None r = Err no_octet
begun_by (Some o) r = led_by (lead_of o) r

-- the character of UTF-8 whose escaped octets a text begins with
unfoldable pub escaped_character : List ℕ → Result Escaped UriFault
escaped_character r = begun_by (octet_at r) r

-- a character of a URI's text: an escaped one, or itself
unfoldable pub uri_character : ℕ → List ℕ → Result Escaped UriFault
uri_character c r = (if c == 37 then escaped_character (c ∷ r) else Ok (record { code = c; further = 0 }))

-- a character before others
abbrev pub put_code : ℕ → Result (List ℕ) UriFault → Result (List ℕ) UriFault
put_code c (Err f) = Err f
put_code c (Ok cs) = Ok (c ∷ cs)

-- a character, and the others after it
abbrev pub code_followed : Result Escaped UriFault → (ℕ → Result (List ℕ) UriFault) → Result (List ℕ) UriFault
code_followed (Err f) others = Err f
code_followed (Ok e) others = put_code e.code (others e.further)

-- The characters that a URI's text means, after so many characters that belong to the one before; each escape is one octet, and octets are read as UTF-8.
abbrev pub decoded_after : (belonging : ℕ) → List ℕ → Result (List ℕ) UriFault
decoded_after n [] = Ok []
decoded_after (suc n) (c ∷ r) = decoded_after n r
decoded_after zero (c ∷ r) = code_followed (uri_character c r) (λ n. decoded_after n r)

-- the characters that a URI's text means
abbrev pub decoded : List ℕ → Result (List ℕ) UriFault
decoded uri = decoded_after 0 uri

-- ---- handles

-- the mark of a tag
abbrev pub is_tag_mark : ℕ → Bool
is_tag_mark c = c == 33

-- whether a text is the name of a handle and the mark after it
abbrev pub is_marked_name : List ℕ → Bool
is_marked_name [] = false
is_marked_name (c ∷ []) = is_tag_mark c
is_marked_name (c ∷ r) = is_alpha c && is_marked_name r

-- A handle is `!`, `!!`, or a name of alpha characters between two marks.
abbrev pub is_handle : List ℕ → Bool
is_handle [] = false
is_handle (c ∷ []) = is_tag_mark c
is_handle (c ∷ r) = is_tag_mark c && is_marked_name r

-- ---- a tag as it is written

-- A tag: its handle, or once it is resolved its prefix, and its suffix.
pub record Tag : Type 0 where
  pub handle : List ℕ
  pub suffix : List ℕ

-- a tag whose suffix is what an escaped text means
abbrev pub tag_by : List ℕ → Result (List ℕ) UriFault → Option Tag
tag_by handle (Err f) = None
tag_by handle (Ok suffix) = Some (record { handle = handle; suffix = suffix })

-- a tag whose suffix is written so, if each of its characters is of the class
abbrev pub tag_of_class : (ℕ → Bool) → List ℕ → List ℕ → Option Tag
tag_of_class p handle text = (if all_of p text then tag_by handle (decoded text) else None)

-- A verbatim tag: the text after `!<`, a URI and `>`; the handle is empty.
abbrev pub verbatim : List ℕ → Option Tag
verbatim text = (if is_same (after is_uri text) (codes ">") then tag_of_class is_uri [] (leading is_uri text) else None)

-- whether a text begins with the mark of a tag
abbrev pub begins_with_mark : List ℕ → Bool
begins_with_mark [] = false
begins_with_mark (c ∷ r) = is_tag_mark c

-- a tag with a handle of two marks: the name, and the text from the second mark on; a suffix must follow
abbrev pub named : (name : List ℕ) → (from_mark : List ℕ) → Option Tag
named name [] = None
named name (c ∷ []) = None
named name (c ∷ suffix) = tag_of_class is_tag (codes "!" ++ name ++ codes "!") suffix

-- a shorthand, from the text after its first mark: `!!s` and `!h!s` have the handle up to the second mark, `!s` has the handle `!`
abbrev pub shorthand : List ℕ → Option Tag
shorthand [] = Some (record { handle = []; suffix = codes "!" })
shorthand text = (if begins_with_mark (after is_alpha text) then named (leading is_alpha text) (after is_alpha text) else tag_of_class is_tag (codes "!") text)

-- the tag that the text after its first mark is
abbrev pub after_mark : List ℕ → Option Tag
after_mark [] = shorthand []
after_mark (c ∷ r) = (if c == 60 then verbatim r else shorthand (c ∷ r))

-- The tag that a text is, with its handle as written: `!<uri>` and `!` alone have the empty handle.
abbrev pub written_tag : List ℕ → Option Tag
written_tag [] = None
written_tag (c ∷ r) = (if is_tag_mark c then after_mark r else None)

-- ---- what a handle stands for

-- a declared handle, and the prefix that it stands for
pub record Declared : Type 0 where
  pub handle : List ℕ
  pub prefix : List ℕ

-- the first prefix that there is
abbrev pub else_by : Option (List ℕ) → Option (List ℕ) → Option (List ℕ)
else_by (Some p) other = Some p
else_by None other = other

-- the prefix that a list of declarations gives a handle; of two the later one counts
abbrev pub declared_prefix : List ℕ → List Declared → Option (List ℕ)
declared_prefix handle [] = None
declared_prefix handle (d ∷ ds) = else_by (declared_prefix handle ds) (if is_same handle (d.handle) then Some (d.prefix) else None)

-- the prefix of a handle that no declaration names
abbrev pub default_prefix : List ℕ → Option (List ℕ)
default_prefix handle =
    (if is_same handle [] then Some [] else
    (if is_same handle (codes "!") then Some (codes "!") else
    (if is_same handle (codes "!!") then Some (codes "tag:yaml.org,2002:") else None)))

-- The prefix of a handle; a handle of its own name must be declared.
unfoldable pub prefix_of : List ℕ → List Declared → Option (List ℕ)
prefix_of handle declared = else_by (declared_prefix handle declared) (default_prefix handle)

-- a suffix with the prefix before it
abbrev pub resolved_by : Option (List ℕ) → List ℕ → Option Tag
resolved_by None suffix = None
resolved_by (Some prefix) suffix = Some (record { handle = prefix; suffix = suffix })

-- the tag with its prefix in place of its handle, by the handles declared
abbrev pub resolved : List Declared → Tag → Option Tag
resolved declared t = resolved_by (prefix_of (t.handle) declared) (t.suffix)
