-- The words of other crates and of specs/ that the proofs here use, passed on from one place. Declares nothing.
pub use Rattle.std.proofs.Common.{[], add-one, ap, append-nil, append_assoc, arith, Bool, false, length, List, map, None, not, Ok, Option, refl, Result, Some, subst, suc, sym, true, true≢false, zero, ℕ, ◌&&◌, ◌++◌, ◌+◌, ◌<◌, ◌∙◌, ◌∷◌, ◌≡◌, ◌≢◌, ◌≤◌}
pub use Rattle.std.proofs.lemmas.Bool.{and_from, and_parts, ne_eqb}
pub use Rattle.std.proofs.lemmas.Bool.Decides.{nat_tests}
pub use Rattle.std.specs.Prelude.{bytes_eq, codes, Err, if◌then◌else◌, nat_eq, pos, unwrap_or, ℤ, ◌==◌}
pub use Rattle.defs_event.specs.Anchors.{aliased, Anchors, finished}
pub use Rattle.defs_event.specs.Event.{Ev}
pub use Rattle.defs_event.specs.Grammar.{after_anchor, cases, content, Goal, grammar, Held, in_block, in_flow, in_pair, node, nothing_held, Place, Side, then_in}
pub use Rattle.defs_event.specs.Names.{at_document, named, Names, names_after, no_names, number, resolved_event, under_name, with_anchor}
pub use Rattle.defs_event.specs.Nested.{Nest, nest, nest_events, nest_pair, nest_pairs_events, nested_alias, nested_documents_events, nested_mapping, nested_scalar, nested_sequence, nested_stream, NestedDocument, NestPairs, Nests, nests_events, no_nest_pairs, no_nests, with_node}
pub use Rattle.defs_event.specs.Raw.{Raw}
pub use Rattle.defs_event.specs.ReadAs.{IsAtWork, ReadAs}
pub use Rattle.defs_event.specs.Reading.{read_documents, read_items, read_node, read_pairs, reading}
pub use Rattle.defs_event.specs.Stream.{events_of, IsStream, whole_stream}
pub use Rattle.defs_event.specs.Table.{before, by_leaving, by_taking, Derives, keep, leaves, nothing_left, Part, read, Row, row_of, say, saying, says, takes, Work}
pub use Rattle.defs_layout.specs.Anchored.{Anchor, begun, ended, last_tree, with_end}
pub use Rattle.defs_layout.specs.Basic.{AreBasicDocuments, AreBasicEntries, AreBasicFields, IsBasic, IsBasicBlock, IsBasicField, IsBasicInline, IsBasicRoot, IsBasicScalar, IsBasicValue}
pub use Rattle.defs_layout.specs.BlockLines.{AreLines, contents, full, Line, spell_lines}
pub use Rattle.defs_layout.specs.Json.{AreElements, AreMembers, Elements, IsJson, Json, JsonText, Members, spell_text, tree_of}
pub use Rattle.defs_layout.specs.JsonGap.{space}
pub use Rattle.defs_layout.specs.JsonNumber.{are_digits, Exponent, exponent, Fraction, fraction, integer_value, is_fraction, is_number, is_whole, no_exponent, no_fraction, plus, spell_exponent, spell_fraction, spell_minus, spell_number}
pub use Rattle.defs_layout.specs.JsonString.{itself, Piece, unicode}
pub use Rattle.defs_layout.specs.JsonTokens.{element_tokens, json_text_tokens, json_tokens, member_tokens}
pub use Rattle.defs_layout.specs.Layout.{anchors_after, anchors_after_block, anchors_after_entries, anchors_after_field, anchors_after_fields, AreDocuments, AreEntries, AreFields, below, Block, block_tree, Document, Documents, Entries, Field, Fields, Inline, inline_tree, IsBlock, IsExplicitKey, IsField, IsInline, IsLayout, IsPlain, IsRoot, IsScalar, IsValue, items, last_document, Layout, MayBeAnchored, MayFollowMark, MayFollowScalarKey, no_comment, pair_list, pair_of, Root, root_tree, Scalar, scalar_tree, spell, spell_block, spell_entries, spell_field, spell_fields, spell_inline, spell_literal, spell_scalar, spell_value, trees_of, Value, value_tree}
pub use Rattle.defs_layout.specs.LayoutTokens.{all_field_tokens, block_tokens, documents_tokens, entry_tokens, field_tokens, inline_tokens, layout_tokens, marked, root_tokens, scalar_token, value_tokens}
pub use Rattle.defs_token.specs.Token.{Style, Tok}
pub use Rattle.defs_tree.proofs.ReadBack.{spelling_back}
pub use Rattle.defs_tree.specs.DumpText.{dump_text}
unfoldable pub use Rattle.defs_tree.specs.Escapes.{written_character}
pub use Rattle.defs_tree.specs.Lines.{joined, lines_of}
pub use Rattle.defs_tree.specs.Literal.{is_literal_text, is_root_literal}
pub use Rattle.defs_tree.specs.Pairs.{AreDistinct, Lacks, lookup, without}
unfoldable pub use Rattle.defs_tree.specs.Quoting.{is_quoted, is_unfit_for_plain}
pub use Rattle.defs_tree.specs.Spelling.{is_scalar, spelling}
pub use Rattle.defs_tree.specs.Tree.{integer, item, Items, items_of, list_of, no_items, no_pairs, pair, pair_list_of, Pairs, pairs_of, real, Tree}
pub use Rattle.defs_tree.specs.Typing.{after_prefix, false_words, fits_i64, is_digit, is_sign, null_words, signed_decimal, special_words, true_words, where_true}
unfoldable pub use Rattle.defs_tree.specs.Typing.{is_decimal, typing}
pub use Rattle.proof_layouts.specs.BasicNest.{all_field_nests, basic_documents, block_nest, document_nest, entry_nests, field_nests, inline_nest, root_nest, scalar_nest, value_nest}
pub use Rattle.proof_layouts.specs.JsonNest.{element_nests, json_documents, member_nests, nested_of}
pub use Rattle.proof_layouts.specs.Laws.{BasicDocumentsReadAsTheirTrees, BasicTokensAreAStream, ForetoldEventsAreNotRefused, JsonDocumentsReadAsTheirTrees, JsonEventsAreLoaded, JsonNumbersStandForTheirTrees, JsonTokensAreAStream, JsonTokensReadAsTheirTree, LayoutEventsAreLoaded, LayoutTokensReadAsTheirTrees, QuotedTokensReadAsTheirString, ReadStreamsAreLoaded, ReadStreamsAreNotCut, ReadStreamsAreNotRefused}
