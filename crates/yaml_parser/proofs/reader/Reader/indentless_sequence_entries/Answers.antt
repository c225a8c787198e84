use Rattle.yaml_parser.proofs.Answering.{reads, Goal, goes, indentless_sequence_entries_end, leaves, mapping_under, names_nothing, not_as, refl, stay, under_no_colon, wrote, block_turns}
use Rattle.yaml_parser.proofs.reader.Reader.indentless_sequence_entries.Goals as goal

pub returns-in-BlockEntry-clause-answers : goal.returns-in-BlockEntry-clause-answers
returns-in-BlockEntry-clause-answers g c = c.in_ok-next.ensures.on Goal.indentless_sequence_entries refl _ _ _ (reads (λ names given h. c.indentless_sequence_item.ensures.answers.so names given (goes c.in_ok-next.ensures.peeked c.in-BlockEntry.is refl c.skip.ensures.took (block_turns _).indentless_sequence_entries_dash refl tt refl refl (λ t i. tt) h)))

pub returns-in_default-clause-answers : goal.returns-in_default-clause-answers
returns-in_default-clause-answers g c = c.in_ok-next.ensures.on Goal.indentless_sequence_entries refl _ _ _ (reads (λ names given h. wrote _ given c.write.ensures (leaves _ c.in_ok-next.ensures.peeked stay (λ t e. indentless_sequence_entries_end _ t (not_as c.in_default.not-BlockEntry e)) (names_nothing refl refl refl) (λ b k. refl) c.mark.ensures (under_no_colon _ (mapping_under _ h.stands.fits)) refl h)))
