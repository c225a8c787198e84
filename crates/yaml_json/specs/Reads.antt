-- What was read of a JSON text between two places in it. Each place is given by the characters that stand behind it.
use Rattle.std.specs.Prelude.{◌≡◌, ℕ, ◌+◌, ◌<◌, ◌≤◌, List, [], ◌∷◌, ◌++◌, Bool, true, false, length, Option, Some, None}
use Rattle.std.specs.Char.{digit_value}
use Rattle.defs_tree.specs.Tree.{Tree, items_of}
use Rattle.defs_layout.specs.Marks.{colon, double_quote, backslash, letter_u}
use Rattle.defs_layout.specs.Json.{Json, Elements, Members, IsJson, AreElements, AreMembers, spell, spell_elements, spell_members, tree_of, items, pair_list, levels, element_levels, member_levels}
use Rattle.defs_layout.specs.JsonGap.{Blank, spell_gap, TabsBeginLines}
use Rattle.defs_layout.specs.JsonNumber.{Number, spell_number, is_number}
use Rattle.defs_layout.specs.JsonString.{Piece, Short, letter_of, character_of, is_hex_digit, spell_pieces, spell_string, are_pieces, unescaped}

-- this character stands first
pub record IsFirst (c : ℕ) (text : List ℕ) : Type 0 where
  pub rest : List ℕ
  pub is : text ≡ c ∷ rest

-- a character of ASCII stands first
pub record IsAsciiFirst (text : List ℕ) : Type 0 where
  pub first : ℕ
  pub rest : List ℕ
  pub ascii : first < 128
  pub is : text ≡ first ∷ rest

-- the place moves behind the first character
abbrev pub Skips : List ℕ → List ℕ → Type 0
Skips old new = (c : ℕ) (rest : List ℕ) → old ≡ c ∷ rest → new ≡ rest

-- whether the place moves behind this character
abbrev pub Takes : Bool → ℕ → List ℕ → List ℕ → Type 0
Takes true c old new = old ≡ c ∷ new
Takes false c old new = new ≡ old

-- whether it moves behind this word
abbrev pub TakesWord : Bool → List ℕ → List ℕ → List ℕ → Type 0
TakesWord true word old new = word ++ new ≡ old
TakesWord false word old new = new ≡ old

-- white space; `at_beginning` tells whether a line begins before it
pub record IsGap (at_beginning : Bool) (text rest : List ℕ) : Type 0 where
  pub gap : List Blank
  pub tabs : TabsBeginLines at_beginning gap
  pub spelled : spell_gap gap rest ≡ text

-- Whether the place moves behind a blank, and whether a line begins there.
abbrev pub TakesBlank : Option Bool → Bool → List ℕ → List ℕ → Type 0
TakesBlank (Some next) at_beginning old new = ((end : List ℕ) → IsGap next new end → IsGap at_beginning old end) × (length new < length old)
TakesBlank None at_beginning old new = new ≡ old

-- pieces of a string that stand for these characters
pub record IsInside (value text rest : List ℕ) : Type 0 where
  pub pieces : List Piece
  pub are : are_pieces pieces ≡ true
  pub value_is : unescaped pieces ≡ value
  pub spelled : spell_pieces pieces rest ≡ text

-- Part of a string, which stands for these characters: pieces that go on behind it begin before it.
pub record IsRun (run text rest : List ℕ) : Type 0 where
  pub goes_on : (more end : List ℕ) → IsInside more rest end → IsInside (run ++ more) text end
  pub nearer : length rest + length run ≤ length text

-- a string; the places are behind its opening quotation mark and behind its closing one
abbrev pub IsStringEnd : (value text rest : List ℕ) → Type 0
IsStringEnd value text rest = IsInside value text (double_quote ∷ rest)

-- an escape for a character; the first place is behind its backslash
abbrev pub IsEscape : ℕ → (text rest : List ℕ) → Type 0
IsEscape c text rest = IsRun (c ∷ []) (backslash ∷ text) rest

-- the same behind the `u`
abbrev pub IsCode : ℕ → (text rest : List ℕ) → Type 0
IsCode c text rest = IsEscape c (letter_u ∷ text) rest

-- the letter of a short escape for a character
pub record IsShort (letter c : ℕ) : Type 0 where
  pub short : Short
  pub letter_is : letter_of short ≡ letter
  pub character_is : character_of short ≡ c

-- a hexadecimal digit of this value
pub record TakesDigit (value : ℕ) (old new : List ℕ) : Type 0 where
  pub digit : ℕ
  pub is : is_hex_digit digit ≡ true
  pub value_is : digit_value digit ≡ value
  pub first : old ≡ digit ∷ new

-- pieces behind the start of a string; the value is what the start stands for, and what they stand for
pub record IsPart (start value text rest : List ℕ) : Type 0 where
  pub more : List ℕ
  pub value_is : value ≡ start ++ more
  pub inside : IsInside more text rest

-- a number
pub record IsNumber (number text rest : List ℕ) : Type 0 where
  pub parts : Number
  pub is : is_number parts ≡ true
  pub shown : spell_number parts [] ≡ number
  pub spelled : spell_number parts rest ≡ text

-- a value of no more than n levels
pub record IsValue (tree : Tree) (n : ℕ) (text rest : List ℕ) : Type 0 where
  pub value : Json
  pub is : IsJson value
  pub tree_is : tree_of value ≡ tree
  pub shallow : levels value ≤ n
  pub spelled : spell value rest ≡ text

-- the values of an array, from the first to the array's end
pub record AreItems (trees : List Tree) (n : ℕ) (text rest : List ℕ) : Type 0 where
  pub elements : Elements
  pub are : AreElements elements
  pub trees_are : items elements ≡ items_of trees
  pub shallow : element_levels elements ≤ n
  pub spelled : spell_elements elements rest ≡ text

-- the members of an object, from the first to the object's end
pub record ArePairs (pairs : List (Tree × Tree)) (n : ℕ) (text rest : List ℕ) : Type 0 where
  pub members : Members
  pub are : AreMembers members
  pub pairs_are : pair_list members ≡ pairs
  pub shallow : member_levels members ≤ n
  pub spelled : spell_members members rest ≡ text

-- a key, its colon, and the white space behind each
pub record IsKey (key : Tree) (text rest : List ℕ) : Type 0 where
  pub pieces : List Piece
  pub are : are_pieces pieces ≡ true
  pub key_is : Tree.string (unescaped pieces) ≡ key
  pub after_key : List Blank
  pub after_colon : List Blank
  pub tabs_after_key : TabsBeginLines false after_key
  pub tabs_after_colon : TabsBeginLines false after_colon
  pub spelled : spell_string pieces (spell_gap after_key (colon ∷ spell_gap after_colon rest)) ≡ text

-- a value, behind which nothing but white space stands
pub record IsWholeValue (tree : Tree) (text : List ℕ) : Type 0 where
  pub behind : List ℕ
  pub value : IsValue tree 255 text behind
  pub gap : IsGap false behind []
