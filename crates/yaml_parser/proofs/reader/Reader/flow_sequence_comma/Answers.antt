use Rattle.yaml_parser.proofs.Answering.{reads, faulted_as, flow_sequence, FlowSequenceEntry, gives, Goal, goes, goes_apart, plain_flow_turns, names_nothing, not_as, refl, refuses, says_inside, under_no_colon, wrote_event, flow_turns, Some, arith, true, ◌≡◌}
use Rattle.yaml_parser.specs.Blames.{fits}
use Rattle.yaml_parser.proofs.reader.Reader.flow_sequence_comma.Goals as goal

pub returns-in-FlowSequenceEnd-clause-answers : goal.returns-in-FlowSequenceEnd-clause-answers
returns-in-FlowSequenceEnd-clause-answers g c = c.in_ok-next.ensures.on Goal.flow_sequence_comma refl _ _ _ (reads (λ names given h. wrote_event _ given c.end_sequence.new.slot.next c.end_sequence.ensures.event (gives _ c.in_ok-next.ensures.peeked c.in-FlowSequenceEnd.is refl c.end_sequence.ensures.mark c.end_sequence.ensures.took (flow_turns _).flow_sequence_comma_end (names_nothing refl refl refl) (λ b k. refl) (λ t there. under_no_colon _ h.stands.fits (Some t.0)) refl refl h)))

pub returns-in-FlowEntry-clause-answers : goal.returns-in-FlowEntry-clause-answers
returns-in-FlowEntry-clause-answers g c = c.in_ok-next.ensures.on Goal.flow_sequence_comma refl _ _ _ (reads (λ names given h. c.flow_sequence_entries.ensures.answers.so names given (goes c.in_ok-next.ensures.peeked c.in-FlowEntry.is refl c.skip.ensures.took (flow_turns _).flow_sequence_comma_entry refl tt refl refl (λ t i. tt) h)))

pub returns-in_default-clause-answers : goal.returns-in_default-clause-answers
returns-in_default-clause-answers g c =
    let fit : fits FlowSequenceEntry c.in_ok-next.next ≡ true = grind arith in
    c.in_ok-next.ensures.on Goal.flow_sequence_comma refl _ _ _ (reads (λ names given h. faulted_as _ given c.halt.ensures (refuses FlowSequenceEntry refl fit c.mark.ensures c.in_ok-next.ensures.peeked (λ t e. (plain_flow_turns _).flow_sequence_comma_refuses t (not_as c.in_default.not-FlowSequenceEnd e) (not_as c.in_default.not-FlowEntry e)) (λ _ _ _ _. tt) (goes_apart Goal.flow_sequence_comma refl (λ ss f. (refl, refl, refl))) (says_inside flow_sequence (λ ss. (refl, refl, refl))) h)))
