-- The words of other crates and of specs/ that the proofs here use, passed on from one place. Declares nothing.
pub use Rattle.std.proofs.Common.{[], ap, append-nil, append_assoc, arith, Bool, cond, drop, false, get_or, inl, inr, length, length-append, length-drop, List, nat_eq, not, refl, reverse, rules, subst, suc, sym, take, true, zero, ℕ, ◌++◌, ◌+◌, ◌-◌, ◌<◌, ◌^◌, ◌||◌, ◌∙◌, ◌∷◌, ◌≡◌, ◌≢◌, ◌≤◌, ◌⊎◌}
pub use Rattle.std.proofs.lemmas.Bool.{and_from, and_parts, both_ways, false_from_ne_true, false≢true, or_cases, true≢false}
pub use Rattle.std.proofs.lemmas.Bool.Decides.{nat_tests, same_from_decides}
pub use Rattle.std.proofs.lemmas.Result.{err_from_is_err_and, IfOk-weaker, MatchResult-at_err, MatchResult-at_ok, on_ok_weaker}
pub use Rattle.std.proofs.lemmas.Slice.Eq.{bytes_eq-Decides}
pub use Rattle.std.proofs.lemmas.Str.{chars-encodes, encode_ascii, encodes-chars, IsUtf8-string_bytes}
pub use Rattle.std.specs.List.{list_all}
pub use Rattle.std.specs.Prelude.{All, bytes_eq, chars, codes, Err, IfErr, IfOk, IfSome, if◌then◌else◌, is_some, IsSome, IsUtf8, map, max, nat_lt, None, Ok, OnOk, Option, option_and_then, option_map, option_to_list, pos, Result, slice_get, slice_index_or, slice_set, Some, String, string_bytes, unwrap_or, Vec, ℤ}
pub use Rattle.std.specs.Str.{encode_utf8_all}
pub use Rattle.std.specs.Str.Iter.{chars_rest, chars_steps}
pub use Rattle.std.specs.declared.alloc.Global.{Global}
pub use Rattle.defs_event.proofs.OneByOne.{one_by_one}
pub use Rattle.defs_event.specs.Anchors.{aliased, Anchors, finished}
pub use Rattle.defs_event.specs.Event.{Ev, Tag}
pub use Rattle.defs_event.specs.Laws.{HasRead, LoadedTreesHaveNoAlias}
pub use Rattle.defs_event.specs.Meaning.{Means}
pub use Rattle.defs_event.specs.Names.{core_prefix}
pub use Rattle.defs_event.specs.NoAlias.{HasNoAlias, NoneHasAlias, NoPairHasAlias}
pub use Rattle.defs_event.specs.Reading.{reading}
pub use Rattle.defs_event.specs.Scalar.{as_boolean, as_integer, as_null, by_name, scalar_tree, tagged_tree}
pub use Rattle.defs_event.specs.Stream.{BeginsPlaced, events_of, Foretells, IsPlacedStream, IsStream, raws_of}
pub use Rattle.defs_event.specs.Unfinished.{at_work, documents_of, Loader, loader_after, new_loader, noted, Opened, opened_mapping, opened_sequence, out_of_nesting, reads, refused_at, repeats, Step, Unfinished, with_document_end, with_event, with_event_at, with_events, with_mapping_end, with_node, with_root, with_sequence_end, with_start, with_tree}
pub use Rattle.defs_layout.specs.Json.{element, Elements, IsJsonText, items, Json, last_element, last_member, member, Members, number, object, pair_list, tree_of}
pub use Rattle.defs_text.specs.Position.{first_position, Position}
pub use Rattle.defs_text.specs.Text.{has_no_nul, up_to_nul}
unfoldable pub use Rattle.defs_text.specs.Text.{string_chars}
pub use Rattle.defs_token.specs.Token.{Style, Token}
pub use Rattle.defs_token.specs.Toks.{toks}
pub use Rattle.defs_tree.specs.Grammar.{is_among}
pub use Rattle.defs_tree.specs.Pairs.{has_key, insert, last_of, without}
pub use Rattle.defs_tree.proofs.TypingLaws.{real_text-cases, typing_plain}
pub use Rattle.defs_tree.specs.Tree.{array, bad_value, hash, integer, item, Items, items_of, no_items, no_pairs, null, pair, Pairs, pairs_of, real, string, Tree}
pub use Rattle.defs_tree.specs.Typing.{false_words, fits_i64, is_decimal, is_real_text, signed_decimal, signed_number, special_words, true_words}
unfoldable pub use Rattle.defs_tree.specs.Typing.{typing}
pub use Rattle.proof_loads.proofs.Answers.{fault_of, nested_is_stream, placed_stream, texts_are_answered}
pub use Rattle.proof_loads.proofs.JsonNul.{json_texts_have_no_nul}
pub use Rattle.proof_loads.proofs.Loads.{memory_is_wanted}
pub use Rattle.proof_loads.proofs.OneReading.{one_reading}
pub use Rattle.proof_loads.proofs.StreamEnds.{all_tokens}
pub use Rattle.proof_loads.proofs.Spelled.{characters_are_the_text, json_texts_are_read}
pub use Rattle.proof_loads.specs.PlacedEvents.{HasEvents}
pub use Rattle.proof_loads.specs.TextEvents.{AnswersText, AreFirst, BeginsEvents, faulted, IsFaultOf, no_stream, no_token, refused, wants_memory, whole}
pub use Rattle.proof_row.proofs.Meanings.{one_meaning}
pub use Rattle.yaml_chars.proofs.SpelledLemmas.{Begins-spelled, Chars-spelled}
pub use Rattle.yaml_chars.specs.Source.{CameFrom}
pub use Rattle.yaml_chars.specs.WindowView.{BeginsText, HasNoNul}
pub use Rattle.yaml_loader.specs.Alike.{ReadsTo, StandAlike}
pub use Rattle.yaml_loader.specs.Gives.{Gives, IsGivenFault}
pub use Rattle.yaml_loader.specs.Loading.{IsNewFault, kept_fault, loader_by, loader_of, Takes, TellsBy, TellsNotedKey, want_of_memory}
pub use Rattle.yaml_loader.specs.Loads.{AreLoaded, HasDocuments, HasNoted, IsLoadFault, Notes, Pushes}
pub use Rattle.yaml_loader.specs.Meant.{LoadsOnly, OfBasic, OfGiven, OfJson, OfLayout, OfQuoted}
pub use Rattle.yaml_loader.specs.Receiving.{HasTaken, IsEmpty, TakesMarked}
pub use Rattle.yaml_loader.specs.RepeatedKey.{shown_key, TellsKey}
pub use Rattle.yaml_loader.specs.TextLoads.{Answers, LoadsText, OfTexts}
pub use Rattle.yaml_loader.specs.Unread.{IsUnread, of_parser}
pub use Rattle.yaml_loader.specs.View.{all_opened, anchors_of, Inserts, IsNoInsert, IsRefusedBy, last_key, opened_of, repeated_key, unfinished_of}
pub use Rattle.yaml_loader.specs.declared.loader.YamlLoader.{YamlLoader}
pub use Rattle.yaml_loader.specs.declared.reading.Open.{Open}
pub use Rattle.yaml_loader.specs.declared.reading.Refusal.{Refusal}
pub use Rattle.yaml_parser.specs.Blames.{WantsMemory}
pub use Rattle.yaml_parser.specs.Loads.{EndsSo, Loads, no_event, one_event, Receives}
pub use Rattle.yaml_parser.specs.Shown.{ev_of, tag_of}
pub use Rattle.yaml_parser.specs.Pulls.{GivesEvent, GivesFault, KeepsSettings}
pub use Rattle.yaml_parser.specs.Parsed.{has_end, is_stream_end, Parse, Parsed, parsed, read}
pub use Rattle.yaml_scanner.specs.Scanned.{MayBe, Scanned, Scans, ScansIn}
pub use Rattle.yaml_tokens.specs.ErrorReport.{ErrorReport, owned_at}
pub use Rattle.yaml_tree.proofs.ItemsLemmas.{get_items_view, items_view_push, list_of_items, pair_list_of_pairs}
pub use Rattle.yaml_tree.specs.View.{items_view, view}
pub use Rattle.yaml_tree.specs.declared.yaml.Yaml.{Yaml}
pub use Rattle.proof_loads.specs.AtStart.{IsAtStart}
pub use Rattle.std.specs.BTreeMap.{is_at}
pub use Rattle.std.specs.Map.{lookup}
pub use Rattle.std.specs.Option.{option_copied}
pub use Rattle.std.specs.Ordering.{nat_cmp}
pub use Rattle.yaml_loader.specs.DocumentStream.{stream_of}
pub use Rattle.yaml_loader.specs.Laws.{EventsAreReadAsDefined, RefusedTextsWantMemory, TakenEventsAreRead, TakenTextsAreLoaded}
pub use Rattle.yaml_loader.specs.declared.marked_receiver.MarkedLoader.{MarkedLoader}
pub use Rattle.std.proofs.Math.Seq.{drop-append_seam, take-append_seam, take-length}
pub use Rattle.std.proofs.lemmas.List.{drop-append-le, map-append, reverse-append, reverse-reverse, take-append-le}
pub use Rattle.defs_event.specs.Fits.{AllFit, Fits, ItemsFit, PairsFit}
pub use Rattle.defs_event.specs.Marking.{alias_of, aliased_marks, finished_marks, marked_documents, MarkedAnchors, nothing_marked, OpenMarks, with_event_marked, with_events_marked}
pub use Rattle.defs_event.specs.Marks.{beside, leaf, list_of_parts, marked_items, marked_pairs, Marks, marks, no_parts, node_at_place, pair_at_text, pair_with, pairs_beside, part, Parts, parts_of}
pub use Rattle.defs_tree.specs.Order.{tree_eq}
pub use Rattle.yaml_loader.specs.MarkedLeaf.{alias_mark, leaf_mark}
pub use Rattle.yaml_loader.specs.MarkedLoading.{AreMarksOf, plain}
pub use Rattle.yaml_loader.specs.MarkedNode.{marks_of, node_of, pair_of}
pub use Rattle.yaml_loader.specs.MarkedParts.{pairs_left}
pub use Rattle.yaml_loader.specs.Standing.{AllOpenStand, AllStand, AnchorsStand, Goes, GoesWith, HasStanding, Holds, IsUnder, mark_under, PartsStand, PerhapsStands, Stands}
pub use Rattle.yaml_loader.specs.Table.{all_shown, AllHaveMarks, HasMarks, item_marks, ItemsHaveMarks, pairs_marks, pairs_shown, PairsHaveMarks, parts_at, shown_marks}
pub use Rattle.yaml_loader.specs.declared.mark.Mark.{Mark}
pub use Rattle.yaml_loader.specs.declared.marking.Begun.{Begun}
pub use Rattle.yaml_loader.specs.declared.marking.Marking.{Marking}
pub use Rattle.defs_event.proofs.StreamNests.{stream_nests}
pub use Rattle.defs_event.specs.Nested.{after_node, at_key, before_node, closes, in_sequence, in_stream, is_nested, IsNested, nested_stream, NestedDocument, open_after, there_and}
pub use Rattle.yaml_loader.specs.OneDocument.{by_key, by_memory, by_parser, Ended, EndsDocument, fault_in, Faults, HasNoEnd, is_end, IsBetween, IsGoing, IsPlain, IsRead, IsReady, Reads, ReadsAll, ReadsOne, Refuses, Stops, TakesAll, TakesDocument}
