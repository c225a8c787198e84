-- The texts that `dump` writes, worked: the first flag is compact, the second multiline.
use Rattle.std.specs.Fmt.{digits}
use Rattle.defs_tree.proofs.Common.{[], alias, bad_value, boolean, codes, false, is_decimal, is_literal_character, is_literal_text, is_quoted, is_root_literal, is_unfit_for_plain, null, real, string, true, typing, written_character, ◌++◌, ◌∷◌, ◌≡◌}
use Rattle.defs_tree.specs.DumpText.{dump_text}
use Rattle.defs_tree.proofs.TreeWords.{text, number, list, mapping}

record Rows : Type 0 where
  literal_block_as_value : dump_text true true (mapping ((text "foo", text "bar!\nbar!") ∷ (text "baz", number 42) ∷ []))
      ≡ codes "---\nfoo: |-\n  bar!\n  bar!\nbaz: 42"
  lines_are_escaped_without_the_setting : dump_text true false (mapping ((text "foo", text "bar!\nbar!") ∷ (text "baz", number 42) ∷ []))
      ≡ codes "---\nfoo: \"bar!\\nbar!\"\nbaz: 42"
  marker_in_a_root_text : dump_text true true (text "a\n---\nb") ≡ codes "---\n\"a\\n---\\nb\""
  literal_block_at_the_root : dump_text true true (text "a\nb\n") ≡ codes "---\n|\na\nb"
  octal_look_is_quoted : dump_text true false (text "0o52") ≡ codes "---\n\"0o52\""
  integer_at_the_root : dump_text true false (number 42) ≡ codes "---\n42"
  array_in_an_array : dump_text true false (list (list (number 1 ∷ number 2 ∷ []) ∷ list [] ∷ [])) ≡ codes "---\n- - 1\n  - 2\n- []"
  array_in_an_array_spread : dump_text false false (list (list (number 1 ∷ number 2 ∷ []) ∷ list [] ∷ []))
      ≡ codes "---\n-\n  - 1\n  - 2\n- []"
  hash_as_key : dump_text true false
      (mapping ((mapping ((text "key", list (number 1 ∷ number 2 ∷ number 3 ∷ [])) ∷ []), list (number 4 ∷ number 5 ∷ number 6 ∷ [])) ∷ []))
      ≡ codes "---\n? key:\n    - 1\n    - 2\n    - 3\n: - 4\n  - 5\n  - 6"
  hash_as_key_spread : dump_text false false
      (mapping ((mapping ((text "key", list (number 1 ∷ number 2 ∷ number 3 ∷ [])) ∷ []), list (number 4 ∷ number 5 ∷ number 6 ∷ [])) ∷ []))
      ≡ codes "---\n?\n  key:\n    - 1\n    - 2\n    - 3\n:\n  - 4\n  - 5\n  - 6"
  empty_array_as_key : dump_text true false (mapping ((list [], number 1) ∷ [])) ≡ codes "---\n? []\n: 1"
  empty_hash_as_value : dump_text true false (mapping ((text "d", mapping []) ∷ [])) ≡ codes "---\nd: {}"
  empty_line_in_a_literal_block : dump_text true true (list (text "a\n\nb" ∷ [])) ≡ codes "---\n- |-\n  a\n  \n  b"
  two_breaks_at_the_end : dump_text true true (list (text "a\n\n" ∷ [])) ≡ codes "---\n- \"a\\n\\n\""
  byte_order_mark : dump_text true true (string (97 ∷ 10 ∷ 65279 ∷ [])) ≡ codes "---\n\"a\\n" ++ 65279 ∷ 34 ∷ []
  word_of_a_float : dump_text true false (text "inf") ≡ codes "---\n\"inf\""
  colon_in_a_text : dump_text true false (text "x: %") ≡ codes "---\n\"x: %\""
  bad_value_at_the_root : dump_text true false bad_value ≡ codes "---\n~"
  alias_at_the_root : dump_text true false (alias 1) ≡ codes "---\n"
  alias_in_an_array : dump_text true false (list (alias 1 ∷ number 2 ∷ [])) ≡ codes "---\n- \n- 2"
  words_in_an_array : dump_text true false (list (text "yes" ∷ text "true" ∷ text "~" ∷ text "2.6" ∷ text "can't" ∷ text ".milk"
      ∷ text "a b" ∷ text "2014-12-31" ∷ string (20320 ∷ 22909 ∷ []) ∷ null ∷ []))
      ≡ codes "---\n- \"yes\"\n- \"true\"\n- \"~\"\n- \"2.6\"\n- \"can't\"\n- \".milk\"\n- a b\n- 2014-12-31\n- " ++ 20320 ∷ 22909
      ∷ codes "\n- ~"
  hashes_and_arrays_in_one_another : dump_text true false
      (mapping ((text "a", mapping ((text "b", mapping ((text "c", text "hello") ∷ [])) ∷ (text "d", mapping []) ∷ []))
      ∷ (text "e", list (text "f" ∷ list (text "g" ∷ list (text "h" ∷ []) ∷ []) ∷ mapping ((text "i", list []) ∷ []) ∷ [])) ∷ []))
      ≡ codes "---\na:\n  b:\n    c: hello\n  d: {}\ne:\n  - f\n  - - g\n    - - h\n  - i: []"
  literal_block_after_a_colon_of_an_array_key : dump_text true true (mapping ((list (number 1 ∷ []), text "p\n\nq\n") ∷ []))
      ≡ codes "---\n? - 1\n: |\n  p\n  \n  q"
  key_is_never_a_literal_block : dump_text true true (mapping ((text "a\nb", number 1) ∷ [])) ≡ codes "---\n\"a\\nb\": 1"
  real_and_booleans : dump_text true false (list (real (codes "1e400") ∷ boolean true ∷ boolean false ∷ []))
      ≡ codes "---\n- 1e400\n- true\n- false"

rows : Rows
unfolding is_quoted is_unfit_for_plain typing is_decimal written_character digits is_literal_text is_root_literal is_literal_character
rows = search
