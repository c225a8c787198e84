-- Pieces that are whole before a text, and shorter and longer ones that are not; and where a NUL would leave two ends. By computing.
use Rattle.proof_row.proofs.Common.{[], are_marks, begins_with, block_read, block_scalar, codes, colon, dash, dashes, digit_of, directive_of, double_quoted_element, double_quoted_value, ends_separation, escape, false, goes_on_with_name, is_alpha, is_anchor_name, is_blank, is_blank_or_end, is_break, is_content_line, is_decimal_digit, is_empty_line, is_flow, is_letter, is_nul, is_separation, is_tag, is_uri, is_whole_plain, IsWholeSeparation, IsWholeTag, kind_at, None, plain_element, plain_scalar, refl, reserved, row_of, sign_of, Some, true, uri_character, written_tag, ◌++◌, ◌∷◌, ◌≡◌}
use Rattle.defs_text.specs.BlockScalar.{literal}

record Rows : Type 0 where
  -- ---- separations
  -- a comment and its break, before a word
  whole_separation : IsWholeSeparation (codes " # a\n") (codes "b")
  -- the comment alone is a separation, but its break goes on with it
  more_separation : ends_separation (codes "\nb") ≡ false
  -- Before a NUL a comment ends, and it may also go on over it; so a separation ends before no NUL.
  comment_ends : is_separation false (codes "#") (0 ∷ []) ≡ true
  comment_goes_on : is_separation false (codes "#" ++ (0 ∷ [])) [] ≡ true
  -- ---- names, and plain and quoted scalars
  -- `*ab` is not the alias `a`
  more_name : goes_on_with_name (codes "b c") ≡ true
  whole_plain : is_whole_plain false None (codes "a b") (codes ": c") ≡ true
  short_plain : is_whole_plain false None (codes "a") (codes " b: c") ≡ false
  long_plain : is_whole_plain false None (codes "a b:") (codes " c") ≡ false
  -- a line that is not deeper than the collection ends the scalar
  plain_line : is_whole_plain false (Some 0) (codes "a") (codes "\nb") ≡ true
  plain_lines : is_whole_plain false (Some 0) (codes "a\nb") [] ≡ false
  -- after `'a'` another quote goes on with the scalar
  more_quoted : begins_with 39 (codes "'b'") ≡ true
  -- in `"a\"b"` the first two characters are no body, and a body with a bare quote has no value
  short_quoted : double_quoted_value (codes "a\\") ≡ None
  long_quoted : double_quoted_value (codes "a\" b") ≡ None
  -- a comma ends a tag in flow
  long_tag : written_tag (codes "!a,b") ≡ None
  -- ---- directives and block scalars
  -- Before a NUL a directive's line ends, and the line may also go on over it.
  directive_ends : directive_of (codes "%a ") ≡ Some reserved
  directive_goes_on : directive_of (codes "%a " ++ (0 ∷ codes "b")) ≡ Some reserved
  whole_block : block_read None (codes "|\n a\n") (codes "b") ≡ Some (record { style = literal; column = 1; text = codes "a\n" })
  -- before a line of its own content the scalar has not ended
  short_block : block_read None (codes "|\n a\n") (codes " b\n") ≡ None
  -- a line that begins before the content column is none of the scalar's
  long_block : block_read None (codes "|\n a\nb") [] ≡ None
  -- Before a NUL a block scalar ends, and a content line may also go on over it.
  block_ends : block_read None (codes "|\n a") (0 ∷ codes "b") ≡ Some (record { style = literal; column = 1; text = codes "a\n" })
  block_goes_on : block_read None (codes "|\n a" ++ (0 ∷ codes "b")) []
      ≡ Some (record { style = literal; column = 1; text = 97 ∷ 0 ∷ codes "b\n" })
  -- ---- kinds
  dash_here : kind_at false false 0 (codes "- a") ≡ dash
  plain_here : kind_at false false 0 (codes "-a") ≡ plain_scalar
  marker_here : kind_at false false 0 (codes "--- a") ≡ dashes
  -- not in column 0
  no_marker_here : kind_at false false 1 (codes "--- a") ≡ plain_scalar
  -- in flow, next to a quoted scalar or a collection
  colon_here : kind_at true true 1 (codes ":a") ≡ colon
  no_colon_here : kind_at true false 1 (codes ":a") ≡ plain_scalar
  -- `|` begins a block scalar outside flow, and a plain scalar in it
  block_here : kind_at false false 0 (codes "|\n") ≡ block_scalar
  no_block_here : kind_at true false 0 (codes "|a") ≡ plain_scalar

rows : Rows
unfolding is_blank is_break is_nul is_blank_or_end is_flow is_anchor_name double_quoted_value double_quoted_element plain_element escape is_decimal_digit is_letter is_alpha is_uri is_tag uri_character directive_of sign_of digit_of row_of is_empty_line is_content_line are_marks
rows = search

-- ---- tags

-- a comma ends a tag in flow; outside it that tag is none
whole_tag : IsWholeTag true (codes "!a") (codes ",b")
unfolding is_blank is_break is_nul is_blank_or_end is_flow is_decimal_digit is_letter is_alpha is_uri is_tag uri_character
whole_tag = (record { handle = codes "!"; suffix = codes "a" }, refl, refl)

tag_outside : ¬ IsWholeTag false (codes "!a") (codes ",b")
unfolding is_blank is_break is_nul is_blank_or_end is_flow
tag_outside h = cc h.2
