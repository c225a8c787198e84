use Rattle.yaml_parser.proofs.Answering.{reads, ap, DocumentStartToken, Goal, marked_begins, [], explicit_outside, plain_turns, explicit_right, faulted_as, goes_apart, kind_of, not_as, push_after, refl, refuses_for, says_explicit, stream_ends, wrote, document_turns}
use Rattle.yaml_parser.proofs.reader.Reader.end_or_document.Goals as goal

pub returns-in-StreamEnd-clause-answers : goal.returns-in-StreamEnd-clause-answers
returns-in-StreamEnd-clause-answers g c = reads (λ names given h. wrote _ given c.write.ensures (stream_ends _ c.requires c.in-StreamEnd.is c.skip.ensures.mark c.skip.ensures.took h))

pub returns-in_ok-push-in-DocumentStart-clause-answers : goal.returns-in_ok-push-in-DocumentStart-clause-answers
returns-in_ok-push-in-DocumentStart-clause-answers g c = reads (λ names given h. wrote _ given c.write-in-DocumentStart.ensures (marked_begins _ Goal.explicit_document [] c.requires c.in-DocumentStart.is c.skip-mark.ensures.mark refl refl c.start_document.ensures.keep (push_after c.skip-mark.ensures.took c.in_ok-push-in-DocumentStart.ensures.stayed) (document_turns _).explicit_document_start refl h (c.start_document.ensures.named names h.code) refl))

pub returns-in_default-clause-answers : goal.returns-in_default-clause-answers
returns-in_default-clause-answers g c = reads (λ names given h.
    faulted_as _ given c.halt.ensures (refuses_for DocumentStartToken refl refl c.mark.ensures c.requires (λ t e. (plain_turns _).explicit_document_refuses t (not_as c.in_default.not-StreamEnd e) (not_as c.in_default.not-DocumentStart e))
    (λ a t e. (explicit_outside a, λ same. absurd (not_as c.in_default.not-DocumentStart e (ap kind_of same)))) (λ a no. goes_apart Goal.explicit_document refl explicit_right a) says_explicit h))
