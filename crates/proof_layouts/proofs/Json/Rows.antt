-- JSON texts, their events and what these are read as, computed.
use Rattle.proof_layouts.proofs.Common.{[], codes, Elements, Err, Ev, exponent, false, fraction, is_decimal, items_of, itself, Json, json_documents, JsonText, List, map, Members, nested_stream, no_exponent, no_fraction, None, Ok, pairs_of, Piece, plus, pos, reading, space, spell_text, Style, Tree, true, typing, unicode, ℕ, ◌∷◌, ◌≡◌}
use Rattle.defs_layout.specs.JsonNumber.{number}

abbrev raw : List ℕ → List Piece
raw w = map itself w

abbrev whole : List ℕ → Json
whole w = Json.number (number false w no_fraction no_exponent)

abbrev alone : Json → JsonText
alone v = record { before = []; value = v; after = [] }

-- `{"a":[true, "true"],"b":{}}`
abbrev object : JsonText
object = alone (Json.object [] (Members.member (raw (codes "a")) [] []
    (Json.array [] (Elements.element Json.true_word [] (space ∷ []) (Elements.last_element (Json.string (raw (codes "true"))) []))) [] []
    (Members.last_member (raw (codes "b")) [] [] (Json.empty_object []) [])))

-- `[1, -0, 9223372036854775808, 1.50, null]`
abbrev numbers : JsonText
numbers = alone (Json.array [] (Elements.element (whole (codes "1")) [] (space ∷ [])
    (Elements.element (Json.number (number true (codes "0") no_fraction no_exponent)) [] (space ∷ [])
    (Elements.element (whole (codes "9223372036854775808")) [] (space ∷ [])
    (Elements.element (Json.number (number false (codes "1") (fraction (codes "50")) no_exponent)) [] (space ∷ [])
    (Elements.last_element Json.null_word []))))))

record Rows : Type 0 where
  object_text : spell_text object ≡ codes "{\"a\":[true, \"true\"],\"b\":{}}"
  object_events : nested_stream (json_documents object) ≡
      Ev.stream_start ∷ Ev.document_start ∷ Ev.mapping_start 0 None
      ∷ Ev.scalar (codes "a") Style.double_quoted 0 None
      ∷ Ev.sequence_start 0 None ∷ Ev.scalar (codes "true") Style.plain 0 None
      ∷ Ev.scalar (codes "true") Style.double_quoted 0 None ∷ Ev.sequence_end
      ∷ Ev.scalar (codes "b") Style.double_quoted 0 None ∷ Ev.mapping_start 0 None ∷ Ev.mapping_end
      ∷ Ev.mapping_end ∷ Ev.document_end ∷ Ev.stream_end ∷ []
  -- the word is a boolean, the string is not
  object_read : reading (json_documents object) ≡ Ok (Tree.hash (pairs_of (
      (Tree.string (codes "a"), Tree.array (items_of (Tree.boolean true ∷ Tree.string (codes "true") ∷ [])))
      ∷ (Tree.string (codes "b"), Tree.hash (pairs_of [])) ∷ [])) ∷ [])
  numbers_text : spell_text numbers ≡ codes "[1, -0, 9223372036854775808, 1.50, null]"
  -- the third has no 64 bits, and a real keeps its text
  numbers_read : reading (json_documents numbers) ≡ Ok (Tree.array (items_of (
      Tree.integer (pos 1) ∷ Tree.integer (pos 0)
      ∷ Tree.real (codes "9223372036854775808") ∷ Tree.real (codes "1.50") ∷ Tree.null ∷ [])) ∷ [])
  -- `-12E+07`, a text of one number
  power_read : reading (json_documents (alone (Json.number (number true (codes "12") no_fraction (exponent true plus (codes "07")))))) ≡
      Ok (Tree.real (codes "-12E+07") ∷ [])
  -- `{"a":1,"\u0061":2}`: the keys are one, and the reading is not the tree
  repeated_read : reading (json_documents (alone (Json.object [] (Members.member (raw (codes "a")) [] [] (whole (codes "1")) [] []
      (Members.last_member (unicode 48 48 54 49 ∷ []) [] [] (whole (codes "2")) []))))) ≡ Err (Tree.string (codes "a"))

rows : Rows
unfolding typing is_decimal
rows = search
