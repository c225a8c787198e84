-- The words of other crates and of specs/ that the proofs here use, passed on from one place. Declares nothing.
pub use Rattle.std.proofs.Common.{[], ap, append_assoc, arith, Bool, drop, Err, false, if◌then◌else◌, inl, inr, length, length-append, List, lit<, map, max, nat_lt, None, not, Ok, Option, refl, Result, slice_index, Some, subst, suc, sym, true, zero, ℕ, ◌&&◌, ◌*◌, ◌++◌, ◌+◌, ◌-◌, ◌<◌, ◌==◌, ◌^◌, ◌||◌, ◌∙◌, ◌∷◌, ◌≡◌, ◌≢◌, ◌≤◌, ◌⊎◌}
pub use Rattle.std.proofs.lemmas.Bool.Decides.{nat_tests}
pub use Rattle.std.specs.Char.{digit_value}
pub use Rattle.std.specs.List.{insert}
pub use Rattle.std.specs.Prelude.{codes, ⊤}
pub use Rattle.defs_text.specs.Position.{Position}
pub use Rattle.defs_token.specs.Token.{Style, Tok, Token}
unfoldable pub use Rattle.model_scanner.specs.Anchor.{anchor_name}
pub use Rattle.model_scanner.specs.Blanks.{are_skipped, blanks, comment, comment_after, linebreak, space_from}
unfoldable pub use Rattle.model_scanner.specs.Blanks.{space}
pub use Rattle.model_scanner.specs.Block.{opens_pair, paired, value_of}
unfoldable pub use Rattle.model_scanner.specs.Block.{begin_key, begin_keyless_mapping, begin_keyless_value, begin_pair, check_after_tab, check_block_entry, check_dash, check_key_space, check_value_space, fetch_block_entry, fetch_key, fetch_value, insert_key, roll_entry}
pub use Rattle.model_scanner.specs.BlockScalar.{begun, First, first_indent, indent_from, line, Lines, lines_from, Margin, margin, no_tab}
unfoldable pub use Rattle.model_scanner.specs.BlockScalar.{begins, between, block, chomping, content, empty_text, ends_indent, header, header_break, header_end, increment, indicators, tail}
unfoldable pub use Rattle.model_scanner.specs.Class.{class_of}
pub use Rattle.model_scanner.specs.Directive.{after_major, after_name, after_value, Digits, digits_end, Kind, number_from, prefix_after, unknown, value, version, with_end, with_minor, with_prefix}
unfoldable pub use Rattle.model_scanner.specs.Directive.{directive, directive_break, kind, line_end, name, number, tag_value, version_value}
pub use Rattle.model_scanner.specs.Document.{begin_stream, closed_key, context, end_stream, next_line, node_start, unled}
unfoldable pub use Rattle.model_scanner.specs.Document.{begin_line, check_after_quoted, check_document_end, fetch_anchor, fetch_block_scalar, fetch_directive, fetch_document_end, fetch_document_marker, fetch_flow_scalar, fetch_plain_scalar, fetch_stream_end, fetch_stream_start, fetch_tag, may_follow_quoted}
pub use Rattle.model_scanner.specs.Fetch.{token_by}
unfoldable pub use Rattle.model_scanner.specs.Fetch.{comes_marker, fetch, fetch_content, fetch_first_column, fetch_here, fetch_indented, fetch_next, fetch_token, is_value}
pub use Rattle.model_scanner.specs.Flow.{allow_key, deepened_flow, end_pair, ended_flow, next_entry}
unfoldable pub use Rattle.model_scanner.specs.Flow.{adjacent_in_flow, begin_flow, decrease_flow_level, end_entry, end_flow, end_flow_pair, fetch_flow_collection_end, fetch_flow_collection_start, fetch_flow_entry, increase_flow_level, pass_indicator}
pub use Rattle.model_scanner.specs.Folding.{Folded, joined, nothing, with_blank, with_break, with_char}
pub use Rattle.model_scanner.specs.Indents.{drop_open, end_level, Levels, placed}
unfoldable pub use Rattle.model_scanner.specs.Indents.{deepen, drop_open_level, in_block, roll_indent, roll_one_col_indent, unroll_indent, unroll_non_block_indents, unrolled, without_open}
pub use Rattle.model_scanner.specs.Keys.{cleared, still, top_key, with_keys}
unfoldable pub use Rattle.model_scanner.specs.Keys.{drop_stale, is_far, must_be_key, remove_implicit_key, save_implicit_key, stale}
pub use Rattle.model_scanner.specs.Kinds.{anchor_token, are_single, flow_end, flow_start, is_literal}
pub use Rattle.model_scanner.specs.Machine.{and_then, ends_while, is_cr_lf, past, Read, skip_while, take_while}
unfoldable pub use Rattle.model_scanner.specs.Machine.{at_marker, is_marker}
pub use Rattle.model_scanner.specs.Plain.{ends_gap, ends_run, ends_tabs, first, inside, plain_from, tabs}
unfoldable pub use Rattle.model_scanner.specs.Plain.{at_dash, at_plain, can_be_plain, goes_on, is_shallow, plain, starts}
pub use Rattle.model_scanner.specs.Quoted.{after, closed, digits_from, gap, named, quote_of, quoted_from}
unfoldable pub use Rattle.model_scanner.specs.Quoted.{escape_of, is_scalar, quoted}
pub use Rattle.model_scanner.specs.Run.{HasTokens, here, IsRefused, Reaches, scan, start, there}
pub use Rattle.model_scanner.specs.Space.{at_break, Gap, in_line, tab_line, white_end}
unfoldable pub use Rattle.model_scanner.specs.Space.{is_before_indent, skip, skip_spaces, skip_to_next_token, skip_yaml_whitespace, white}
pub use Rattle.model_scanner.specs.State.{go_on, Held, in_flow, Key, lexed, on_held, peek, pop, push, put, ScannerState, skip_indicator, token, with_held, with_top, ◌>>=◌}
pub use Rattle.model_scanner.specs.Tag.{read_tag, verbatim_end}
unfoldable pub use Rattle.model_scanner.specs.Tag.{ends_tag, handle, prefix, shorthand, tag, verbatim}
pub use Rattle.model_scanner.specs.declared.context.Context.{Context}
pub use Rattle.model_scanner.specs.declared.context.SkipTabs.{SkipTabs}
pub use Rattle.model_scanner.specs.declared.context.Whitespace.{Whitespace}
pub use Rattle.model_scanner.specs.declared.kind.BlockStyle.{BlockStyle}
pub use Rattle.model_scanner.specs.declared.kind.Collection.{Collection}
pub use Rattle.model_scanner.specs.declared.kind.NameKind.{NameKind}
pub use Rattle.model_scanner.specs.declared.kind.Quotes.{Quotes}
pub use Rattle.yaml_chars.specs.Class.{is_blank_or_breakz, is_breakz}
unfoldable pub use Rattle.yaml_chars.specs.Class.{is_alpha, is_alphanumeric, is_anchor, is_blank, is_break, is_digit, is_flow, is_hex, is_tag, is_uri, is_uri_mark}
pub use Rattle.yaml_chars.specs.Run.{Ran, ran}
unfoldable pub use Rattle.yaml_chars.specs.Run.{stops}
pub use Rattle.yaml_chars.specs.declared.run.Run.TheVariants.{Line, Plain}
pub use Rattle.yaml_tokens.specs.declared.problem.Fault.{Fault}
pub use Rattle.yaml_tokens.specs.declared.problem.Fault.TheVariants.{At}
pub use Rattle.yaml_tokens.specs.declared.problem.Problem.{Problem}
