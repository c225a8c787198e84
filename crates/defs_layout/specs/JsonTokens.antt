-- The tokens of a JSON text. RFC 8259, sections 2 to 7; YAML 1.2, sections 7.3.1, 7.3.3 and 7.4.
-- Words and numbers are plain scalars of their text, strings are double-quoted scalars of what they stand for.
use Rattle.std.specs.Prelude.{List, [], ◌∷◌, codes}
use Rattle.defs_token.specs.Token.{Tok, Style}
use Rattle.defs_layout.specs.Json.{Json, Elements, Members, JsonText}
use Rattle.defs_layout.specs.JsonNumber.{spell_number}
use Rattle.defs_layout.specs.JsonString.{Piece, unescaped}

-- a string
abbrev pub string_token : List Piece → Tok
string_token ps = Tok.scalar Style.double_quoted (unescaped ps)

abbrev mutual
  -- a value, before the tokens r
  pub json_tokens : Json → List Tok → List Tok
  json_tokens Json.false_word r = Tok.scalar Style.plain (codes "false") ∷ r
  json_tokens Json.null_word r = Tok.scalar Style.plain (codes "null") ∷ r
  json_tokens Json.true_word r = Tok.scalar Style.plain (codes "true") ∷ r
  json_tokens (Json.number n) r = Tok.scalar Style.plain (spell_number n []) ∷ r
  json_tokens (Json.string ps) r = string_token ps ∷ r
  json_tokens (Json.empty_array g) r = Tok.flow_sequence_start ∷ Tok.flow_sequence_end ∷ r
  json_tokens (Json.array g es) r = Tok.flow_sequence_start ∷ element_tokens es (Tok.flow_sequence_end ∷ r)
  json_tokens (Json.empty_object g) r = Tok.flow_mapping_start ∷ Tok.flow_mapping_end ∷ r
  json_tokens (Json.object g ms) r = Tok.flow_mapping_start ∷ member_tokens ms (Tok.flow_mapping_end ∷ r)

  -- the values of an array, commas between them
  pub element_tokens : Elements → List Tok → List Tok
  element_tokens (Elements.last_element v a) r = json_tokens v r
  element_tokens (Elements.element v a b es) r = json_tokens v (Tok.flow_entry ∷ element_tokens es r)

  -- the members of an object, commas between them
  pub member_tokens : Members → List Tok → List Tok
  member_tokens (Members.last_member k g h v a) r = Tok.key ∷ string_token k ∷ Tok.value ∷ json_tokens v r
  member_tokens (Members.member k g h v a b ms) r = Tok.key ∷ string_token k ∷ Tok.value ∷ json_tokens v (Tok.flow_entry ∷ member_tokens ms r)

-- the whole text
abbrev pub json_text_tokens : JsonText → List Tok
json_text_tokens w = Tok.stream_start ∷ json_tokens w.value (Tok.stream_end ∷ [])
