use Rattle.yaml_parser.proofs.Answering.{reads, block_mapping_value_empty, is_error, answers_plain, answers_written, at_same, Goal, goes, if_none, if_some_at, leaves, names_nothing, not_as, push_after, refl, stay, stay_push, TakesBoth, pair_taken, block_turns}
use Rattle.yaml_tokens.specs.declared.token.TokenType.TheVariants as token
use Rattle.yaml_parser.proofs.reader.Reader.block_mapping_value.Goals as goal

pub returns-in-Some-clause-answers : goal.returns-in-Some-clause-answers
returns-in-Some-clause-answers g c = reads (λ names given h. answers_plain c.plain.new.self c.in-Some.value given c.plain.result c.plain.new.slot c.plain.ensures.event c.plain.ensures.stayed c.plain.ensures.err (λ s. pair_taken {k = token.Value} Goal.block_mapping_value refl refl refl refl refl (block_turns _).block_mapping_value_value (if_some_at (λ n. TakesBoth c.args.self.now.tokens token.Value n c.next_value.new.self.tokens) c.in_ok-value.ensures.value c.in-Some.is) c.next_value.ensures.stack c.next_value.ensures.names s h))

pub returns-in_err-next-clause-answers : goal.returns-in_err-next-clause-answers
returns-in_err-next-clause-answers g c = reads (λ names given h. (c.in_err-next.ensures.stops Goal.block_mapping_value refl _ (is_error _ _ c.from_residual-in_err-next.ensures.1)).so names given (at_same (if_none c.in_ok-value.ensures.none c.in_default.is) h))

pub returns-in_ok-push-in-Value-clause-answers : goal.returns-in_ok-push-in-Value-clause-answers
returns-in_ok-push-in-Value-clause-answers g c = reads (λ names given h. c.pair_node.ensures.answers.so names given (goes c.in_ok-next.ensures.peeked c.in-Value.is refl (push_after c.skip.ensures.took c.in_ok-push-in-Value.ensures.stayed) (block_turns _).block_mapping_value_value refl tt refl refl (λ t i. tt) (c.in_ok-next.ensures.at Goal.block_mapping_value refl names given (at_same (if_none c.in_ok-value.ensures.none c.in_default.is) h))))

pub returns-in_ok-push-in_default-next-clause-answers : goal.returns-in_ok-push-in_default-next-clause-answers
returns-in_ok-push-in_default-next-clause-answers g c = reads (λ names given h. answers_written _ given c.nothing_written.new.slot.next c.nothing_written.ensures (leaves _ c.in_ok-next.ensures.peeked (stay_push stay c.in_ok-push-in_default-next.ensures.stayed) (λ t e. block_mapping_value_empty _ t (not_as c.in_default-next.not-Value e)) (names_nothing refl refl refl) (λ b k. refl) c.mark.ensures (λ o. tt) refl (c.in_ok-next.ensures.at Goal.block_mapping_value refl names given (at_same (if_none c.in_ok-value.ensures.none c.in_default.is) h))))
