-- The words of other crates and of specs/ that the proofs here use, passed on from one place. Declares nothing.
pub use Rattle.std.proofs.Common.{get_or, reverse, set, slice_get, ◌^◌, [], ap, append-nil, append_assoc, arith, Bool, drop, Err, false, if◌then◌else◌, inl, inr, length, length-append, List, map, nat_le, nat_lt, None, not, Ok, Option, option_map, refl, Result, rules, slice_index, Some, subst, suc, sym, take, true, zero, ℕ, ◌&&◌, ◌++◌, ◌+◌, ◌-◌, ◌<◌, ◌==◌, ◌||◌, ◌∙◌, ◌∷◌, ◌≡◌, ◌≢◌, ◌≤◌}
pub use Rattle.std.proofs.lemmas.Bool.{and_from, and_parts, both_ways, eqb-true, le-ltb, lt-ltb, ltb-false, ne_eqb}
pub use Rattle.std.proofs.lemmas.Bool.Decides.{nat_tests}
pub use Rattle.std.proofs.lemmas.List.{length-drop, length-map, length-take, map-append, reverse-append, take_all, take-append-drop, with_items_is}
pub use Rattle.std.proofs.lemmas.List.Edits.{map_over_more}
pub use Rattle.std.proofs.lemmas.Simd.{map-map}
pub use Rattle.std.proofs.Math.Seq.{take-append-add, take-append_seam, take-length}
pub use Rattle.std.specs.List.{insert, list_any}
pub use Rattle.std.specs.Option.{IfSome}
pub use Rattle.std.specs.Prelude.{is_some, codes, IfErr, IsErrAnd, MatchOption, OnOk}
pub use Rattle.defs_text.specs.Position.{first_position, Position, position_after}
pub use Rattle.defs_text.specs.Text.{has_no_nul, is_empty}
pub use Rattle.defs_token.specs.Token.{Style, Tok, Token}
pub use Rattle.model_scanner.proofs.Runs.{not_refused, one_fault, one_list, one_more, run_to_end}
unfoldable pub use Rattle.model_scanner.specs.Block.{begin_pair, check_value_space, fetch_block_entry, fetch_value, insert_key}
unfoldable pub use Rattle.model_scanner.specs.Class.{class_of}
pub use Rattle.model_scanner.specs.Document.{begin_stream, next_line}
unfoldable pub use Rattle.model_scanner.specs.Document.{fetch_plain_scalar, fetch_stream_end, fetch_stream_start}
pub use Rattle.model_scanner.specs.Fetch.{token_by}
unfoldable pub use Rattle.model_scanner.specs.Fetch.{comes_marker, fetch, fetch_content, fetch_first_column, fetch_here, fetch_indented, fetch_next, fetch_token, is_value}
pub use Rattle.model_scanner.specs.Indents.{drop_open, end_level, level, Levels, with_levels}
unfoldable pub use Rattle.model_scanner.specs.Indents.{deepen, drop_open_level, in_block, roll_indent, roll_one_col_indent, unroll_indent, unroll_non_block_indents, unrolled, without_open}
pub use Rattle.model_scanner.specs.Keys.{cleared, has_required, is_overdue, is_required, still, top_key, top_needs_block_end}
unfoldable pub use Rattle.model_scanner.specs.Keys.{drop_stale, is_far, must_be_key, remove_implicit_key, save_implicit_key, stale}
pub use Rattle.model_scanner.specs.Machine.{past, past_break, Read}
unfoldable pub use Rattle.model_scanner.specs.Machine.{at_marker}
pub use Rattle.model_scanner.specs.Run.{HasTokens, here, IsRefused, nothing_held, Reaches, start}
pub use Rattle.model_scanner.specs.Space.{between, comment, is_before_indent, tab_line}
unfoldable pub use Rattle.model_scanner.specs.Space.{skip, skip_to_next_token, white}
pub use Rattle.model_scanner.specs.State.{Held, in_flow, Key, pop, top, moved, on_held, peek, push, ScannerState, skip_indicator, token, try_held, with_top, ◌>>=◌}
pub use Rattle.model_scanner.specs.declared.level.Indent.{Indent}
pub use Rattle.proof_lexers.specs.HeaderEnds.{along}
pub use Rattle.yaml_chars.proofs.WindowViewLemmas.{Possible-taken, Reads-saw, Reads-then}
pub use Rattle.yaml_chars.specs.BlockLines.{indented, IsSimpleText, TakesKey, TakesLine, TakesNode, TakesValue}
unfoldable pub use Rattle.yaml_chars.specs.BlockLines.{is_simple, opens_simple}
pub use Rattle.yaml_chars.specs.Class.{is_blank_or_breakz}
unfoldable pub use Rattle.yaml_chars.specs.Class.{is_alphanumeric, is_blank, is_break}
pub use Rattle.yaml_chars.specs.WindowView.{after_char, after_line, position_of, Reads, Sees, WindowView}
pub use Rattle.yaml_scanner.specs.Awaits.{AwaitsKey, AwaitsNode, AwaitsValue, levels_after, Stands, StandsAt}
pub use Rattle.yaml_scanner.specs.Fetched.{Fetched, FetchesTwice, Gets, once, RunsTwice, twice, with_key, with_line}
unfoldable pub use Rattle.yaml_scanner.specs.Fetched.{fetch_rest}
pub use Rattle.yaml_scanner.specs.Follows.{AreBehind, AreSettled, BeginsWith, Follows, FollowsIn, IsReached, IsShort}
pub use Rattle.yaml_scanner.specs.Runs.{Becomes, Brings, Comes, Runs, Steps, Turns}
pub use Rattle.yaml_scanner.specs.Scanned.{HandsBoth, inside, IsRefusal, LeavesNoRow, Scanned, Scans}
pub use Rattle.yaml_scanner.specs.Shape.{held, state}
pub use Rattle.yaml_scanner.specs.Work.{Fetches, Moves, work}
pub use Rattle.yaml_scanner.specs.declared.fetcher.Fetcher.{Fetcher}
pub use Rattle.yaml_scanner.specs.ImplicitKeys.{is_front, is_stale, key_of, keyed_by, lowered, no_implicit, seen, still_implicit, top_implicit}
pub use Rattle.yaml_scanner.specs.Levels.{Columns, ends_open, value_level}
pub use Rattle.yaml_scanner.specs.Tokens.{end_at, handed, has_end, is_end, key_tokens, Tokens, waiting}
pub use Rattle.yaml_scanner.specs.declared.keys.ImplicitKey.{ImplicitKey}
pub use Rattle.yaml_tokens.specs.ErrorReport.{ErrorReport}
pub use Rattle.yaml_tokens.specs.declared.problem.Fault.{Fault}
pub use Rattle.yaml_tokens.specs.declared.problem.Fault.TheVariants.{At, OutOfMemory}
