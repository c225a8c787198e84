use Rattle.yaml_parser.proofs.Answering.{reads, is_error, answers_plain, answers_written, at_same, gives, Goal, if_none, if_some_at, pair_taken, names_nothing, not_as, plain_turns, push_after, refl, stay, stays, TakesBoth, block_turns}
use Rattle.yaml_tokens.specs.declared.token.TokenType.TheVariants as token
use Rattle.yaml_parser.proofs.reader.Reader.block_mapping_entries.Goals as goal

pub returns-in-Some-clause-answers : goal.returns-in-Some-clause-answers
returns-in-Some-clause-answers g c = reads (λ names given h. answers_plain c.plain.new.self c.in-Some.key given c.plain.result c.plain.new.slot c.plain.ensures.event c.plain.ensures.stayed c.plain.ensures.err (λ s. pair_taken {k = token.Key} Goal.block_mapping_entries refl refl refl refl refl (block_turns _).block_mapping_entries_take_key (if_some_at (λ n. TakesBoth c.args.self.now.tokens token.Key n c.next_key.new.self.tokens) c.in_ok-key.ensures.key c.in-Some.is) c.next_key.ensures.stack c.next_key.ensures.names s h))

pub returns-in_err-next-clause-answers : goal.returns-in_err-next-clause-answers
returns-in_err-next-clause-answers g c = reads (λ names given h. (c.in_err-next.ensures.stops Goal.block_mapping_entries refl _ (is_error _ _ c.from_residual-in_err-next.ensures.1)).so names given (at_same (if_none c.in_ok-key.ensures.none c.in_default.is) h))

pub returns-in_ok-push-in-Value-2-clause-answers : goal.returns-in_ok-push-in-Value-2-clause-answers
returns-in_ok-push-in-Value-2-clause-answers g c = reads (λ names given h. answers_written _ given c.nothing_written.new.slot.next c.nothing_written.ensures (gives _ c.in_ok-next.ensures.peeked c.in-Value.is refl c.skip-mark.ensures.mark (push_after (push_after c.skip-mark.ensures.took c.in_ok-push-in-Value.ensures.stayed) c.in_ok-push-in-Value-2.ensures.stayed) (block_turns _).block_mapping_entries_value (names_nothing refl refl refl) (λ b k. refl) (λ t there. tt) refl refl (c.in_ok-next.ensures.at Goal.block_mapping_entries refl names given (at_same (if_none c.in_ok-key.ensures.none c.in_default.is) h))))

pub returns-in_default-next-clause-answers : goal.returns-in_default-next-clause-answers
returns-in_default-next-clause-answers g c = reads (λ names given h. c.block_mapping_pair.ensures.answers.so names given (stays c.in_ok-next.ensures.peeked stay (λ t e. (plain_turns _).block_mapping_entries_next t (not_as c.in_default-next.not-Value e)) refl tt (λ o. tt) refl (c.in_ok-next.ensures.at Goal.block_mapping_entries refl names given (at_same (if_none c.in_ok-key.ensures.none c.in_default.is) h))))
