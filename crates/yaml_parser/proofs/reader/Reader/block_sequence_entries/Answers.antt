use Rattle.yaml_parser.proofs.Answering.{reads, block_sequence, BlockSequenceEntry, plain_turns, faulted_as, gives, Goal, goes, goes_apart, names_nothing, not_as, refl, refuses, says_inside, under_no_colon, wrote_event, block_turns, Some, arith, true, ◌≡◌}
use Rattle.yaml_parser.specs.Blames.{fits}
use Rattle.yaml_parser.proofs.reader.Reader.block_sequence_entries.Goals as goal

pub returns-in-BlockEnd-clause-answers : goal.returns-in-BlockEnd-clause-answers
returns-in-BlockEnd-clause-answers g c = c.in_ok-next.ensures.on Goal.block_sequence_entries refl _ _ _ (reads (λ names given h. wrote_event _ given c.end_sequence.new.slot.next c.end_sequence.ensures.event (gives _ c.in_ok-next.ensures.peeked c.in-BlockEnd.is refl c.end_sequence.ensures.mark c.end_sequence.ensures.took (block_turns _).block_sequence_entries_end (names_nothing refl refl refl) (λ b k. refl) (λ t there. under_no_colon _ h.stands.fits (Some t.0)) refl refl h)))

pub returns-in-BlockEntry-clause-answers : goal.returns-in-BlockEntry-clause-answers
returns-in-BlockEntry-clause-answers g c = c.in_ok-next.ensures.on Goal.block_sequence_entries refl _ _ _ (reads (λ names given h. c.block_sequence_item.ensures.answers.so names given (goes c.in_ok-next.ensures.peeked c.in-BlockEntry.is refl c.skip.ensures.took (block_turns _).block_sequence_entries_dash refl tt refl refl (λ t i. tt) h)))

pub returns-in_default-clause-answers : goal.returns-in_default-clause-answers
returns-in_default-clause-answers g c =
    let fit : fits BlockSequenceEntry c.in_ok-next.next ≡ true = grind arith in
    c.in_ok-next.ensures.on Goal.block_sequence_entries refl _ _ _ (reads (λ names given h. faulted_as _ given c.halt.ensures (refuses BlockSequenceEntry refl fit c.mark.ensures c.in_ok-next.ensures.peeked (λ t e. (plain_turns _).block_sequence_entries_refuses t (not_as c.in_default.not-BlockEnd e) (not_as c.in_default.not-BlockEntry e)) (λ _ _ _ _. tt) (goes_apart Goal.block_sequence_entries refl (λ ss f. (refl, refl, refl))) (says_inside block_sequence (λ ss. (refl, refl, refl))) h)))
