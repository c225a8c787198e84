-- Texts in double quotes, worked.
use Rattle.defs_tree.proofs.Common.{[], codes, double_quoted, written_character, ◌∷◌, ◌≡◌}

record Rows : Type 0 where
  plain_letters : double_quoted (codes "ab") ≡ codes "\"ab\""
  empty_quotes : double_quoted (codes "") ≡ codes "\"\""
  quote_is_escaped : double_quoted (codes "a\"b") ≡ codes "\"a\\\"b\""
  backslash_is_escaped : double_quoted (codes "\\") ≡ codes "\"\\\\\""
  backspace_is_escaped : double_quoted (8 ∷ []) ≡ codes "\"\\b\""
  tab_is_escaped : double_quoted (9 ∷ []) ≡ codes "\"\\t\""
  line_feed_is_escaped : double_quoted (10 ∷ []) ≡ codes "\"\\n\""
  form_feed_is_escaped : double_quoted (12 ∷ []) ≡ codes "\"\\f\""
  carriage_return_is_escaped : double_quoted (13 ∷ []) ≡ codes "\"\\r\""
  code_0_is_escaped : double_quoted (0 ∷ []) ≡ codes "\"\\u0000\""
  code_11_is_escaped : double_quoted (11 ∷ []) ≡ codes "\"\\u000b\""
  code_31_is_escaped : double_quoted (31 ∷ []) ≡ codes "\"\\u001f\""
  code_127_is_escaped : double_quoted (127 ∷ []) ≡ codes "\"\\u007f\""
  space_stands : double_quoted (codes " ") ≡ codes "\" \""
  single_quote_stands : double_quoted (codes "can't") ≡ codes "\"can't\""
  slash_stands : double_quoted (codes "/") ≡ codes "\"/\""
  code_128_stands : double_quoted (128 ∷ []) ≡ 34 ∷ 128 ∷ 34 ∷ []
  byte_order_mark_stands : double_quoted (65279 ∷ []) ≡ 34 ∷ 65279 ∷ 34 ∷ []

rows : Rows
unfolding written_character
rows = search
