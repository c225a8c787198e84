-- JSON values between whose parts only spaces stand: those that are written on one line without TAB.
use Rattle.proof_loads.proofs.Common.{[], and_parts, arith, array, Blank, element, Elements, empty_array, empty_object, is_on_one_line, Json, last_element, last_member, List, list_all, member, Members, object, Piece, space, spell, spell_elements, spell_members, spell_number, spell_pieces, spell_string, true, ℕ, ◌++◌, ◌∷◌, ◌≡◌}
use Rattle.defs_layout.specs.JsonGap.{spell_gap}
use Rattle.proof_loads.proofs.JsonTokens.Numbers.{number_then}

-- only spaces
abbrev pub AreSpaces : List Blank → Type 0
AreSpaces [] = Unit {0}
AreSpaces (space ∷ g) = AreSpaces g
AreSpaces (b ∷ g) = ⊥

abbrev mutual
  -- within a value
  pub HasSpaces : Json → Type 0
  HasSpaces (empty_array g) = AreSpaces g
  HasSpaces (array g es) = AreSpaces g × HaveSpaces es
  HasSpaces (empty_object g) = AreSpaces g
  HasSpaces (object g ms) = AreSpaces g × MembersHaveSpaces ms
  HasSpaces _ = Unit {0}

  -- within the values of an array, and between them
  pub HaveSpaces : Elements → Type 0
  HaveSpaces (last_element v a) = HasSpaces v × AreSpaces a
  HaveSpaces (element v a b es) = HasSpaces v × AreSpaces a × AreSpaces b × HaveSpaces es

  -- within the members of an object, and between them
  pub MembersHaveSpaces : Members → Type 0
  MembersHaveSpaces (last_member k g h v a) = AreSpaces g × AreSpaces h × HasSpaces v × AreSpaces a
  MembersHaveSpaces (member k g h v a b ms) = AreSpaces g × AreSpaces h × HasSpaces v × AreSpaces a × AreSpaces b × MembersHaveSpaces ms

abbrev OnOneLine : List ℕ → Type 0
OnOneLine a = list_all is_on_one_line a ≡ true

after_one : (c : ℕ) (a : List ℕ) → OnOneLine (c ∷ a) → OnOneLine a
after_one c a h = (and_parts (is_on_one_line c) (list_all is_on_one_line a) h).1

after : (w a : List ℕ) → OnOneLine (w ++ a) → OnOneLine a
after [] a h = h
after (c ∷ w) a h = after w a (after_one c (w ++ a) h)

gap_spaces : (g : List Blank) (r : List ℕ) → OnOneLine (spell_gap g r) → AreSpaces g × OnOneLine r
unfolding is_on_one_line
gap_spaces [] r h = (tt, h)
gap_spaces (b ∷ g) r h = grind (arith, gap_spaces g r)

after_pieces : (ps : List Piece) (r : List ℕ) → OnOneLine (spell_pieces ps r) → OnOneLine r
after_pieces [] r h = h
after_pieces (p ∷ ps) r h = after_pieces ps r (grind (arith, after_one))

after_string : (ps : List Piece) (r : List ℕ) → OnOneLine (spell_string ps r) → OnOneLine r
after_string ps r h = after_one 34 r (after_pieces ps (34 ∷ r) (after_one 34 (spell_pieces ps (34 ∷ r)) h))

mutual
  pub json_spaces : (v : Json) (r : List ℕ) → OnOneLine (spell v r) → HasSpaces v × OnOneLine r
  json_spaces (array g es) r h = grind (arith, gap_spaces, after_one, elements_spaces es)
  json_spaces (object g ms) r h = grind (arith, gap_spaces, after_one, members_spaces ms)
  json_spaces v r h = grind (arith, gap_spaces, after_one, after, spell_number, number_then, after_string)

  elements_spaces : (es : Elements) (r : List ℕ) → OnOneLine (spell_elements es r) → HaveSpaces es × OnOneLine r
  elements_spaces (last_element v a) r h = grind (arith, json_spaces v, gap_spaces)
  elements_spaces (element v a b es) r h = grind (arith, json_spaces v, gap_spaces, after_one, elements_spaces es r)

  members_spaces : (ms : Members) (r : List ℕ) → OnOneLine (spell_members ms r) → MembersHaveSpaces ms × OnOneLine r
  members_spaces (last_member k g h v a) r line = grind (arith, after_string, gap_spaces, after_one, json_spaces v)
  members_spaces (member k g h v a b ms) r line = grind (arith, after_string, gap_spaces, after_one, json_spaces v, members_spaces ms r)
