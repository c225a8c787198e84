use Rattle.yaml_loader.proofs.Common.{err_from_is_err_and, IsAtStart, parsed, ◌∙◌}
use Rattle.yaml_loader.proofs.TextLemmas.{begins_given}
use Rattle.yaml_loader.proofs.MarkedTexts.{leaves}
use Rattle.yaml_loader.proofs.marked_receiver.MarkedLoader.of_source.Goals as goal

pub returns-in_err-outcome : goal.returns-in_err-outcome
returns-in_err-outcome g c =
    let p = err_from_is_err_and c.from_residual.result c.from_residual.ensures.1 in
    let e = c.new-parser.ensures in
    let l = c.load-outcome.ensures in
    let new = parsed c.load-outcome.new.self in
    let at_start : IsAtStart (parsed c.new-parser.result) = record { given = e.given; fault = e.fault; started = e.started; ended = e.ended; steady = e.steady } in
    begins_given g.S.Characters.next_gives c.args.source c.load-outcome.new.self.start new.scanner (l.start ∙ e.start) c.note.ensures.came c.note.ensures.no_nul
    (λ text may.
    let answered = c.texts_are_answered.ensures _ _ _ _ _ text at_start (c.note.ensures.scans.scans text may) l.loads in
    let left = leaves c.refused_texts_want_memory.ensures c.new-receiver.ensures e.keep_tags answered in
    rw (p.1, p.2) (rw (c.in_err-outcome.was {u = tt}) at left))

pub returns : goal.returns
returns g c =
    let e = c.new-parser.ensures in
    let l = c.load-outcome.ensures in
    let new = parsed c.load-outcome.new.self in
    let at_start : IsAtStart (parsed c.new-parser.result) = record { given = e.given; fault = e.fault; started = e.started; ended = e.ended; steady = e.steady } in
    begins_given g.S.Characters.next_gives c.args.source c.load-outcome.new.self.start new.scanner (l.start ∙ e.start) c.note.ensures.came c.note.ensures.no_nul
    (λ text may.
    let answered = c.texts_are_answered.ensures _ _ _ _ _ text at_start (c.note.ensures.scans.scans text may) l.loads in
    let left = leaves c.refused_texts_want_memory.ensures c.new-receiver.ensures e.keep_tags answered in
    rw (c.in_ok-outcome.was {u = tt}) at left)
