use Rattle.std.proofs.Common.{ap, ◌∙◌, ◌++◌}
use Rattle.std.specs.Str.Iter.{chars_rest}
use Rattle.std.specs.Str.{chars}
use Rattle.yaml_rust2.specs.Text.{up_to_nul}
use Rattle.yaml_rust2.specs.Parsed.{parsed}
use Rattle.yaml_rust2.specs.AtStart.{IsAtStart}
use Rattle.uses.specs.Anchors.{anchors_in}
use Rattle.uses.proofs.Collected.{all_noted}
use Rattle.uses.proofs.Taken.{all_taken}
use Rattle.uses.proofs.anchors.anchor_numbers.Goals as goal

pub returns : goal.returns
returns c =
    let e = c.new_from_str-parser.ensures in
    let text = up_to_nul (chars c.args.text.now) in
    let scans = c.strings_are_the_text.ensures _ _ _ c.utf8.text (ap chars_rest c.load-outcome.ensures.start ∙ e.source) c.note.ensures.came c.note.ensures.no_nul c.note.ensures.scans in
    let at_start : IsAtStart (parsed c.new_from_str-parser.result) = record { given = e.given; fault = e.fault; started = e.started; ended = e.ended; steady = e.steady } in
    let answered = c.texts_are_answered.ensures _ _ _ _ _ text at_start scans c.load-outcome.ensures.loads in
    let taken = all_taken answered c.in_ok-outcome.was e.keep_tags in
    (taken.0, taken.1, all_noted taken.2 ∙ ap (λ t. t ++ anchors_in taken.0) c.new.ensures.items)
