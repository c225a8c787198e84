use Rattle.yaml_parser.proofs.Answering.{reads, gives, Goal, flow_sequence_entries_node, names_nothing, not_as, push_after, refl, stay, stay_push, stays, under_no_colon, wrote, wrote_event, flow_turns, Some}
use Rattle.yaml_parser.proofs.reader.Reader.flow_sequence_entries.Goals as goal

pub returns-in-FlowSequenceEnd-clause-answers : goal.returns-in-FlowSequenceEnd-clause-answers
returns-in-FlowSequenceEnd-clause-answers g c = c.in_ok-next.ensures.on Goal.flow_sequence_entries refl _ _ _ (reads (λ names given h. wrote_event _ given c.end_sequence.new.slot.next c.end_sequence.ensures.event (gives _ c.in_ok-next.ensures.peeked c.in-FlowSequenceEnd.is refl c.end_sequence.ensures.mark c.end_sequence.ensures.took (flow_turns _).flow_sequence_entries_end (names_nothing refl refl refl) (λ b k. refl) (λ t there. under_no_colon _ h.stands.fits (Some t.0)) refl refl h)))

pub returns-in_ok-push-in-Key-clause-answers : goal.returns-in_ok-push-in-Key-clause-answers
returns-in_ok-push-in-Key-clause-answers g c = c.in_ok-next.ensures.on Goal.flow_sequence_entries refl _ _ _ (reads (λ names given h. wrote _ given c.write.ensures (gives _ c.in_ok-next.ensures.peeked c.in-Key.is refl c.skip-mark.ensures.mark (push_after c.skip-mark.ensures.took c.in_ok-push-in-Key.ensures.stayed) (flow_turns _).flow_sequence_entries_key (names_nothing refl refl refl) (λ b k. refl) (λ t there. tt) refl refl h)))

pub returns-in_ok-push-in_default-clause-answers : goal.returns-in_ok-push-in_default-clause-answers
returns-in_ok-push-in_default-clause-answers g c = c.in_ok-next.ensures.on Goal.flow_sequence_entries refl _ _ _ (reads (λ names given h. c.node.ensures.answers.so names given (stays c.in_ok-next.ensures.peeked (stay_push stay c.in_ok-push-in_default.ensures.stayed) (λ t e. flow_sequence_entries_node _ t (not_as c.in_default.not-FlowSequenceEnd e) (not_as c.in_default.not-Key e)) refl tt (λ o. tt) refl h)))
