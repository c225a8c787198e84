-- Which texts may be literal blocks, worked: for each condition one in and one out.
use Rattle.defs_tree.proofs.Common.{[], codes, false, is_literal_character, is_literal_text, is_root_literal, literal_header, true, ◌∷◌, ◌≡◌}

record Rows : Type 0 where
  two_lines : is_literal_text (codes "a\nb") ≡ true
  one_line : is_literal_text (codes "ab") ≡ false
  one_line_and_its_end : is_literal_text (codes "ab\n") ≡ true
  empty_text : is_literal_text (codes "") ≡ false
  line_feed_alone : is_literal_text (codes "\n") ≡ false
  ends_in_one_break : is_literal_text (codes "a\nb\n") ≡ true
  ends_in_two_breaks : is_literal_text (codes "a\n\n") ≡ false
  empty_line_inside : is_literal_text (codes "a\n\nb") ≡ true
  empty_lines_before : is_literal_text (codes "\n\na") ≡ true
  first_line_starts_with_a_space : is_literal_text (codes " a\nb") ≡ false
  first_full_line_starts_with_a_space : is_literal_text (codes "\n a\nb") ≡ false
  second_full_line_starts_with_a_space : is_literal_text (codes "a\n b") ≡ true
  first_line_starts_with_a_tab : is_literal_text (codes "\ta\nb") ≡ true
  carriage_return : is_literal_text (codes "a\r\nb") ≡ false
  escape_code : is_literal_text (97 ∷ 10 ∷ 27 ∷ []) ≡ false
  code_31 : is_literal_text (97 ∷ 10 ∷ 31 ∷ []) ≡ false
  code_32 : is_literal_text (97 ∷ 10 ∷ 32 ∷ []) ≡ true
  code_126 : is_literal_text (97 ∷ 10 ∷ 126 ∷ []) ≡ true
  code_127 : is_literal_text (97 ∷ 10 ∷ 127 ∷ []) ≡ false
  code_132 : is_literal_text (97 ∷ 10 ∷ 132 ∷ []) ≡ false
  next_line : is_literal_text (97 ∷ 10 ∷ 133 ∷ []) ≡ true
  code_134 : is_literal_text (97 ∷ 10 ∷ 134 ∷ []) ≡ false
  code_159 : is_literal_text (97 ∷ 10 ∷ 159 ∷ []) ≡ false
  code_160 : is_literal_text (97 ∷ 10 ∷ 160 ∷ []) ≡ true
  last_before_the_surrogates : is_literal_text (97 ∷ 10 ∷ 55295 ∷ []) ≡ true
  first_surrogate : is_literal_text (97 ∷ 10 ∷ 55296 ∷ []) ≡ false
  last_surrogate : is_literal_text (97 ∷ 10 ∷ 57343 ∷ []) ≡ false
  first_after_the_surrogates : is_literal_text (97 ∷ 10 ∷ 57344 ∷ []) ≡ true
  byte_order_mark : is_literal_text (97 ∷ 10 ∷ 65279 ∷ []) ≡ false
  before_the_byte_order_mark : is_literal_text (97 ∷ 10 ∷ 65278 ∷ []) ≡ true
  code_65533 : is_literal_text (97 ∷ 10 ∷ 65533 ∷ []) ≡ true
  code_65534 : is_literal_text (97 ∷ 10 ∷ 65534 ∷ []) ≡ false
  code_65536 : is_literal_text (97 ∷ 10 ∷ 65536 ∷ []) ≡ true
  greatest_code : is_literal_text (97 ∷ 10 ∷ 1114111 ∷ []) ≡ true
  above_the_greatest_code : is_literal_text (97 ∷ 10 ∷ 1114112 ∷ []) ≡ false
  two_lines_at_the_root : is_root_literal (codes "a\nb") ≡ true
  space_first_at_the_root : is_root_literal (codes " a\nb") ≡ false
  tab_first_at_the_root : is_root_literal (codes "\ta\nb") ≡ false
  tab_on_a_later_line_at_the_root : is_root_literal (codes "a\n\tb") ≡ true
  tab_after_an_empty_line_at_the_root : is_root_literal (codes "\n\ta") ≡ true
  dashes_at_the_root : is_root_literal (codes "a\n---\nb") ≡ false
  dashes_and_space_at_the_root : is_root_literal (codes "--- a\nb") ≡ false
  dashes_and_tab_at_the_root : is_root_literal (codes "a\n---\tb") ≡ false
  points_at_the_root : is_root_literal (codes "a\n...") ≡ false
  dashes_and_letter_at_the_root : is_root_literal (codes "a\n---b") ≡ true
  two_dashes_at_the_root : is_root_literal (codes "a\n--") ≡ true
  dashes_after_a_space_at_the_root : is_root_literal (codes "a\n ---") ≡ true
  dashes_below_the_root : is_literal_text (codes "a\n---\nb") ≡ true
  header_of_a_text_with_its_end : literal_header (codes "a\nb\n") ≡ codes "|"
  header_of_a_text_without_its_end : literal_header (codes "a\nb") ≡ codes "|-"

rows : Rows
unfolding is_literal_text is_root_literal is_literal_character
rows = search
