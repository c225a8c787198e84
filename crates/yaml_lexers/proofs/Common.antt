-- The words of other crates and of specs/ that the proofs here use, passed on from one place. Declares nothing.
pub use Rattle.std.proofs.Common.{[], add-one, ap, append-nil, append_assoc, arith, Bool, false, if◌then◌else◌, length, length-take, List, lit<, nat_le, nat_lt, Ok, refl, slice_index, suc, sym, true, ℕ, ◌&&◌, ◌*◌, ◌++◌, ◌+◌, ◌-◌, ◌<◌, ◌==◌, ◌^◌, ◌||◌, ◌∙◌, ◌∷◌, ◌≡◌, ◌≢◌, ◌≤◌}
pub use Rattle.std.proofs.Math.Nat.{le_trans, mul-le-mul_left, mul-le-mul_right, mul_assoc, pow-le-pow_right, pow-succ'}
pub use Rattle.std.proofs.lemmas.Bool.Decides.{nat_tests}
pub use Rattle.std.proofs.lemmas.Result.{on_ok_weaker}
pub use Rattle.defs_text.specs.Position.{Position}
pub use Rattle.model_scanner.proofs.PlainLemmas.{ends_here, lone_blank, plain_starts, run_end, tab_turn}
pub use Rattle.model_scanner.proofs.QuotedLemmas.{closing, digit_turn, in_line_goes_on, line_inside}
pub use Rattle.model_scanner.proofs.RunLemmas.{block_ran, block_run, no_gap, plain_ran, plain_run, quoted_ran, quoted_run}
pub use Rattle.model_scanner.proofs.SpaceLemmas.{comment_on, spaces_stop}
pub use Rattle.model_scanner.specs.Anchor.{anchor_name, some_name}
pub use Rattle.model_scanner.specs.Blanks.{are_skipped, blanks, comment, space, space_from}
pub use Rattle.model_scanner.specs.BlockScalar.{begun, first_indent, indent_from, line, Lines, lines_from, margin, with_char}
unfoldable pub use Rattle.model_scanner.specs.BlockScalar.{ends_indent}
pub use Rattle.model_scanner.specs.Folding.{Folded, nothing}
pub use Rattle.model_scanner.specs.Machine.{past, skip_while, take_while}
pub use Rattle.model_scanner.specs.Plain.{between, can_be_plain, ends_run, is_shallow, plain, plain_from, tabs}
pub use Rattle.model_scanner.specs.Quoted.{at_part, breaking, count_of, digits_from, first, inside, named, quoted, quoted_from}
pub use Rattle.model_scanner.specs.Uri.{lead, Octet, octet_from, percent, trail, trails_from, uri, uri_from}
pub use Rattle.model_scanner.specs.declared.context.Context.{Context}
pub use Rattle.yaml_chars.proofs.RunLemmas.{Reads-map, stops_nul}
pub use Rattle.yaml_chars.proofs.WindowViewLemmas.{Possible-taken, Reads-saw, Reads-see, Reads-then, Sees-both}
pub use Rattle.yaml_chars.specs.Class.{is_alpha, is_anchor, is_blank_or_breakz, is_tag, is_uri}
unfoldable pub use Rattle.yaml_chars.specs.Class.{is_blank, is_break}
pub use Rattle.yaml_chars.specs.WindowView.{after_char, HasChar, position_of, Reads, SamePosition, Sees, WindowView}
pub use Rattle.yaml_lexers.specs.Shown.{AddsWords, at, at_folded, folded, none, some}
pub use Rattle.yaml_lexers.specs.ShownBlock.{lines}
pub use Rattle.yaml_lexers.specs.ShownQuoted.{GoesOn, Shows}
