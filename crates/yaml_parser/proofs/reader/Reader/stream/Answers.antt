use Rattle.yaml_parser.proofs.Answering.{reads, ap, DocumentStartToken, false, faulted_as, gives, Goal, is_open, names_nothing, not_as, nothing_given, nothing_taken, push_after, refl, refuses_for, plain_turns, wrote, document_turns, sym, problem_of}
use Rattle.yaml_parser.proofs.reader.Reader.stream.Goals as goal

pub returns-in_ok-push-in-StreamStart-clause-answers : goal.returns-in_ok-push-in-StreamStart-clause-answers
returns-in_ok-push-in-StreamStart-clause-answers g c = c.in_ok-next.ensures.on Goal.stream refl _ _ _ (reads (λ names given h. wrote _ given c.write.ensures (gives _ c.in_ok-next.ensures.peeked c.in-StreamStart.is refl c.skip-mark.ensures.mark (push_after c.skip-mark.ensures.took c.in_ok-push-in-StreamStart.ensures.stayed) (document_turns _).stream_takes (names_nothing refl refl refl) (λ b k. refl) (λ t there. tt) refl refl h)))

pub returns-in_default-clause-answers : goal.returns-in_default-clause-answers
returns-in_default-clause-answers g c = c.in_ok-next.ensures.on Goal.stream refl _ _ _ (reads (λ names given h.
    faulted_as _ given c.halt.ensures (refuses_for DocumentStartToken refl refl c.mark.ensures c.in_ok-next.ensures.peeked (λ t e. (plain_turns _).stream_refuses t (not_as c.in_default.not-StreamStart e)) (λ a t e. (ap (is_open false) (nothing_given a), λ same. nothing_given a)) (λ a no known. absurd (no (nothing_taken a))) (λ a known t look kind. sym (ap (λ ts. problem_of ts t) (nothing_taken a)))
    h)))
