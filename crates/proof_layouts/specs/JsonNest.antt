-- The nested events of a JSON text: words and numbers are plain scalars, strings and keys double-quoted ones; nothing has an anchor
-- or a tag. RFC 8259, sections 2 to 7; YAML 1.2, section 3.1.
use Rattle.std.specs.Prelude.{ℕ, List, [], ◌∷◌, None, codes}
use Rattle.defs_token.specs.Token.{Style}
use Rattle.defs_layout.specs.JsonNumber.{spell_number}
use Rattle.defs_layout.specs.JsonString.{Piece, unescaped}
use Rattle.defs_layout.specs.Json.{Json, Elements, Members, JsonText}
use Rattle.defs_event.specs.Nested.{Nest, nested_scalar, nested_sequence, nested_mapping, Nests, no_nests, nest, NestPairs, no_nest_pairs, nest_pair, NestedDocument, with_node}

-- a word or a number, by its text
abbrev pub plain_nest : List ℕ → Nest
plain_nest text = nested_scalar text Style.plain 0 None

-- a string or a key
abbrev pub string_nest : List Piece → Nest
string_nest ps = nested_scalar (unescaped ps) Style.double_quoted 0 None

abbrev mutual
  -- a value
  pub nested_of : Json → Nest
  nested_of Json.false_word = plain_nest (codes "false")
  nested_of Json.null_word = plain_nest (codes "null")
  nested_of Json.true_word = plain_nest (codes "true")
  nested_of (Json.number n) = plain_nest (spell_number n [])
  nested_of (Json.string ps) = string_nest ps
  nested_of (Json.empty_array g) = nested_sequence 0 None no_nests
  nested_of (Json.array g es) = nested_sequence 0 None (element_nests es)
  nested_of (Json.empty_object g) = nested_mapping 0 None no_nest_pairs
  nested_of (Json.object g ms) = nested_mapping 0 None (member_nests ms)

  -- the values of an array
  pub element_nests : Elements → Nests
  element_nests (Elements.last_element v a) = nest (nested_of v) no_nests
  element_nests (Elements.element v a b es) = nest (nested_of v) (element_nests es)

  -- the members of an object
  pub member_nests : Members → NestPairs
  member_nests (Members.last_member k g h v a) = nest_pair (string_nest k) (nested_of v) no_nest_pairs
  member_nests (Members.member k g h v a b ms) = nest_pair (string_nest k) (nested_of v) (member_nests ms)

-- the whole text: one document
abbrev pub json_documents : JsonText → List NestedDocument
json_documents w = with_node (nested_of w.value) ∷ []
