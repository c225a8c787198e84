-- What computes cuts and rows of texts that are written out: one word for a proof's `unfolding`.
use Rattle.defs_token.proofs.Common.{are_marks, begins_with_marker, digit_of, double_quoted_element, double_quoted_value, escape, escaped_character, is_alpha, is_anchor_name, is_blank, is_blank_or_end, is_break, is_character_code, is_content_line, is_decimal_digit, is_empty_line, is_flow, is_letter, is_nul, is_tag, is_trail, is_uri, lead_of, numeric_escape, octet_at, plain_element, plain_value, row_of, sign_of, single_quoted_element, single_quoted_value, uri_character, ⊤}
use Rattle.defs_text.specs.Directives.{directive_of}

-- the classes of characters, and the values of scalars, tags and directives
unfoldable pub cut_on_literals : ⊤
unfolding is_blank is_break is_nul is_blank_or_end is_flow is_decimal_digit is_letter is_alpha is_uri is_tag is_anchor_name are_marks plain_element single_quoted_element double_quoted_element is_character_code numeric_escape escape begins_with_marker plain_value single_quoted_value double_quoted_value sign_of digit_of is_empty_line is_content_line row_of octet_at lead_of is_trail escaped_character uri_character directive_of
cut_on_literals = tt
