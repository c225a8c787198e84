use Rattle.yaml_parser.proofs.Answering.{reads, Goal, block_mapping, BlockMappingKey, faulted_as, gives, goes, goes_apart, plain_turns, names_nothing, not_as, push_after, refl, refuses, says_inside, under_no_colon, wrote_event, block_turns, Some, arith, true, ◌≡◌}
use Rattle.yaml_parser.specs.Blames.{fits}
use Rattle.yaml_parser.proofs.reader.Reader.block_mapping_pair.Goals as goal

pub returns-in-BlockEnd-clause-answers : goal.returns-in-BlockEnd-clause-answers
returns-in-BlockEnd-clause-answers g c = reads (λ names given h. wrote_event _ given c.end_mapping.new.slot.next c.end_mapping.ensures.event (gives _ c.requires c.in-BlockEnd.is refl c.end_mapping.ensures.mark c.end_mapping.ensures.took (block_turns _).block_mapping_next_entries_end (names_nothing refl refl refl) (λ b k. refl) (λ t there. under_no_colon _ h.stands.fits (Some t.0)) refl refl h))

pub returns-in_ok-push-in-Key-clause-answers : goal.returns-in_ok-push-in-Key-clause-answers
returns-in_ok-push-in-Key-clause-answers g c = reads (λ names given h. c.pair_node.ensures.answers.so names given (goes c.requires c.in-Key.is refl (push_after c.skip.ensures.took c.in_ok-push-in-Key.ensures.stayed) (block_turns _).block_mapping_next_entries_key refl tt refl refl (λ t i. tt) h))

pub returns-in_default-clause-answers : goal.returns-in_default-clause-answers
returns-in_default-clause-answers g c =
    let fit : fits BlockMappingKey c.args.next ≡ true = grind arith in
    reads (λ names given h. faulted_as _ given c.halt.ensures (refuses BlockMappingKey refl fit c.mark.ensures c.requires (λ t e. (plain_turns _).block_mapping_next_entries_refuses t (not_as c.in_default.not-BlockEnd e) (not_as c.in_default.not-Key e)) (λ _ _ _ _. tt) (goes_apart Goal.block_mapping_next_entries refl (λ ss f. (refl, refl, refl))) (says_inside block_mapping (λ ss. (refl, refl, refl))) h))
