-- What computes the scanner's model on a text that is written out: one word for a proof's `unfolding`.
use Rattle.model_scanner.proofs.Common.{adjacent_in_flow, anchor_name, at_dash, at_marker, at_plain, begin_flow, begin_key, begin_keyless_mapping, begin_keyless_value, begin_line, begin_pair, begins, between, block, can_be_plain, check_after_quoted, check_after_tab, check_block_entry, check_dash, check_document_end, check_key_space, check_value_space, chomping, class_of, comes_marker, content, decrease_flow_level, deepen, directive, directive_break, drop_open_level, drop_stale, empty_text, end_entry, end_flow, end_flow_pair, ends_tag, escape_of, fetch, fetch_anchor, fetch_block_entry, fetch_block_scalar, fetch_content, fetch_directive, fetch_document_end, fetch_document_marker, fetch_first_column, fetch_flow_collection_end, fetch_flow_collection_start, fetch_flow_entry, fetch_flow_scalar, fetch_here, fetch_indented, fetch_key, fetch_next, fetch_plain_scalar, fetch_stream_end, fetch_stream_start, fetch_tag, fetch_token, fetch_value, goes_on, handle, header, header_break, header_end, in_block, increase_flow_level, increment, indicators, insert_key, is_alpha, is_alphanumeric, is_anchor, is_before_indent, is_blank, is_break, is_digit, is_far, is_flow, is_hex, is_marker, is_scalar, is_shallow, is_tag, is_uri, is_uri_mark, is_value, kind, line_end, may_follow_quoted, must_be_key, name, number, pass_indicator, plain, prefix, quoted, remove_implicit_key, roll_entry, roll_indent, roll_one_col_indent, save_implicit_key, shorthand, skip, skip_spaces, skip_to_next_token, skip_yaml_whitespace, space, stale, starts, tag, tag_value, tail, unroll_indent, unroll_non_block_indents, unrolled, verbatim, version_value, white, without_open, ⊤}
use Rattle.model_scanner.specs.Quoted.{refused}
use Rattle.model_scanner.specs.Tag.{named}

-- the functions of the model, those of its lexing functions and the classes of characters
unfoldable pub scan_on_literals : ⊤
unfolding is_break is_blank is_flow is_alpha is_alphanumeric is_anchor is_digit is_hex is_uri is_uri_mark is_tag is_marker at_marker space plain can_be_plain goes_on is_shallow at_dash at_plain starts quoted escape_of is_scalar refused anchor_name chomping increment indicators header_break header_end header content between begins tail empty_text block kind name number version_value tag_value directive_break line_end directive verbatim named shorthand ends_tag tag handle prefix class_of is_far drop_stale stale must_be_key save_implicit_key remove_implicit_key drop_open_level deepen roll_indent in_block roll_one_col_indent unrolled unroll_indent without_open unroll_non_block_indents is_before_indent skip skip_to_next_token skip_spaces white skip_yaml_whitespace increase_flow_level begin_flow pass_indicator end_flow end_entry fetch_flow_collection_start end_flow_pair decrease_flow_level adjacent_in_flow fetch_flow_collection_end fetch_flow_entry check_block_entry check_dash roll_entry fetch_block_entry begin_key check_key_space fetch_key check_after_tab check_value_space begin_pair insert_key begin_keyless_mapping begin_keyless_value fetch_value fetch_stream_start fetch_stream_end begin_line fetch_directive fetch_document_marker check_document_end fetch_document_end fetch_anchor fetch_tag fetch_block_scalar may_follow_quoted check_after_quoted fetch_flow_scalar fetch_plain_scalar is_value fetch_token comes_marker fetch_indented fetch_first_column fetch_content fetch_here fetch_next fetch
scan_on_literals = tt
