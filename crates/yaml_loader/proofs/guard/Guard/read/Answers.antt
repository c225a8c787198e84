use Rattle.yaml_loader.proofs.LimitedCommon.{AnswersText, ap, by_limits, false, Guards, Hands, IfSome, IsAtStart, parsed, subst, sym, too_many, Waits, ◌∙◌, ◌≡◌}
use Rattle.yaml_loader.proofs.TextLemmas.{begins_given}
use Rattle.yaml_loader.proofs.LimitedLemmas.{handed, held_back}
use Rattle.yaml_loader.proofs.guard.Guard.read.Goals as goal

pub returns-in-Some : goal.returns-in-Some
returns-in-Some g c =
    let e = c.new-parser.ensures in
    let l = c.load-outcome.ensures in
    let same = c.set_room.ensures in
    let new = parsed c.load-outcome.new.self in
    begins_given g.S.Characters.next_gives c.args.source c.load-outcome.new.self.start new.scanner (l.start ∙ ap (λ p. p.start) same ∙ e.start) c.note.ensures.came c.note.ensures.no_nul
    (λ text may. λ is_new.
    let waits = subst (λ b. IfSome b (λ w. Waits text w.mark w.tokens)) (sym c.backlog.ensures) (c.note.ensures.scans.scans text may).waits in
    let held = held_back c.args.self.now.count.limits text c.backlog.result c.in-Some.mark waits c.in-Some.ensures in
    by_limits _ (too_many held.0 c.in-Some.mark held.1 held.2))

pub returns : goal.returns
returns g c =
    let e = c.new-parser.ensures in
    let l = c.load-outcome.ensures in
    let same = c.set_room.ensures in
    let new = parsed c.load-outcome.new.self in
    let fresh : IsAtStart (parsed c.new-parser.result) = record { given = e.given; fault = e.fault; started = e.started; ended = e.ended; steady = e.steady } in
    let at_start : IsAtStart (parsed c.set_room.new.self) = subst (λ p. IsAtStart (parsed p)) (sym same) fresh in
    let keep_tags : (parsed c.set_room.new.self).keep_tags ≡ false = ap (λ p. (parsed p).keep_tags) same ∙ e.keep_tags in
    begins_given g.S.Characters.next_gives c.args.source c.load-outcome.new.self.start new.scanner (l.start ∙ ap (λ p. p.start) same ∙ e.start) c.note.ensures.came c.note.ensures.no_nul
    (λ text may. λ is_new.
    let takes = g.R.MarkedEventReceiver.takes in
    let all = c.texts_are_answered.ensures _ _ _ _ _ text at_start (c.note.ensures.scans.scans text may) l.loads in
    let answers = subst (λ k. AnswersText (Guards takes) k text c.args.self.now c.load-outcome.result c.load-outcome.new.recv) keep_tags all in
    subst (λ o. Hands takes c.args.self.now.count.limits text c.args.self.now.receiver o c.load-outcome.new.recv.receiver) (sym c.finish.ensures) (handed takes text c.args.self.now is_new answers))
