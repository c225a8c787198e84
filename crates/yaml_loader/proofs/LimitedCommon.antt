-- The words of other crates and of specs/ that the proofs here use, passed on from one place. Declares nothing.
pub use Rattle.yaml_loader.proofs.Common.{[], aliased, Anchors, AnswersText, ap, append_assoc, arith, array, at_work, bad_value, BeginsEvents, Bool, by_memory, by_name, bytes_eq, CameFrom, characters_are_the_text, Chars-spelled, chars_rest, codes, cond, core_prefix, documents_of, encode_utf8_all, encodes-chars, Err, err_from_is_err_and, ErrorReport, Ev, false, false_from_ne_true, false_words, faulted, Faults, Gives, Global, has_key, HasDocuments, hash, HasNoNul, HasRead, HasTaken, IfErr, IfSome, if◌then◌else◌, inl, inr, insert, integer, is_among, is_decimal, is_end, is_real_text, IsAtStart, IsBetween, IsEmpty, IsRead, IsReady, IsSome, IsUtf8-string_bytes, items_of, items_view, items_view_push, kept_fault, length, List, Loader, loader_after, loader_of, MarkedLoader, max, nat_eq, new_loader, no_event, None, of_parser, Ok, one_event, OnOk, opened_mapping, opened_sequence, Option, option_copied, option_map, option_to_list, pairs_of, Parse, Parsed, parsed, Position, reads, ReadsOne, real, Receives, refl, RefusedTextsWantMemory, Refuses, Result, scalar_tree, Scans, ScansIn, signed_decimal, Some, Step, stream_of, String, string, string_bytes, Style, subst, suc, sym, Tag, TakenEventsAreRead, TakenTextsAreLoaded, Takes, TakesAll, TakesMarked, Tree, tree_eq, true, true_words, true≢false, typing, typing_plain, Unfinished, unwrap_or, up_to_nul, Vec, view, want_of_memory, wants_memory, whole, with_document_end, with_event, with_event_at, with_events, with_mapping_end, with_root, with_sequence_end, with_tree, without, Yaml, YamlLoader, zero, ℕ, ℤ, ◌++◌, ◌+◌, ◌<◌, ◌^◌, ◌||◌, ◌∙◌, ◌∷◌, ◌≡◌, ◌≤◌}
unfoldable pub use Rattle.defs_text.specs.Text.{string_chars}
pub use Rattle.yaml_loader.proofs.DocumentReading.{all_of, is_read, none_more, read_so, refused_by_memory, same_last, stops_by_key, stops_by_parser}
pub use Rattle.yaml_loader.specs.Counting.{AreAbove, Counted, Counts, FitsIn, Guards, IsExcess, IsNew, opened_size}
pub use Rattle.yaml_loader.specs.Extents.{extended, extent_at, scalar_extent, single_node, tag_size}
pub use Rattle.yaml_loader.specs.Handing.{by_limits, by_parser, by_receiver, error_by, error_of, Hands, HoldsBack, IsHanded, IsNotHanded, outcome_by, too_deep, too_large, too_many}
pub use Rattle.yaml_loader.specs.Made.{IsWithin, Made, made, made_by, made_from, nothing_made, with_end, with_kept, with_node, with_part, with_start, with_tag}
pub use Rattle.yaml_loader.specs.LimitedDocument.{by_nodes, by_tokens, GoesOver, IsReadWithin, IsTooLarge, ReadsWithin}
pub use Rattle.yaml_loader.specs.Sizes.{AreNoDeeper, AreWithin, document_extent, documents_size, items_extent, pairs_extent, tree_extent}
pub use Rattle.yaml_loader.specs.declared.count.Excess.{Excess}
pub use Rattle.yaml_loader.specs.declared.count.Opened.{Opened}
pub use Rattle.yaml_loader.specs.declared.limits_error.LimitsError.{LimitsError}
pub use Rattle.yaml_loader.specs.declared.extent.Extent.{Extent}
pub use Rattle.yaml_loader.specs.declared.guard.Guard.{Guard}
pub use Rattle.yaml_loader.specs.declared.limits.Limits.{Limits}
pub use Rattle.yaml_loader.proofs.TextLemmas.{of_memory}
pub use Rattle.yaml_scanner.specs.Waits.{Waits}
pub use Rattle.yaml_scanner.specs.declared.fetcher.Backlog.{Backlog}
