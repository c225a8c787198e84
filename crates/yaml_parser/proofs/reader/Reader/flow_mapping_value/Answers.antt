use Rattle.yaml_parser.proofs.Answering.{reads, answers_written, ap, flow_mapping_value_empty, Goal, goes, if_some_at, leaves, names_nothing, not_as, refl, Some, stay, stay_push, flow_turns}
use Rattle.yaml_parser.proofs.reader.Reader.flow_mapping_value.Goals as goal

pub returns-in-Value-clause-answers : goal.returns-in-Value-clause-answers
returns-in-Value-clause-answers g c = c.in_ok-next.ensures.on Goal.flow_mapping_value refl _ _ _ (reads (λ names given h. c.flow_mapping_valued.ensures.answers.so names given (goes c.in_ok-next.ensures.peeked c.in-Value.is refl c.skip-colon.ensures.took ((flow_turns _).flow_mapping_value_value _) refl tt refl refl (λ t i. ap Some (if_some_at _ c.skip-colon.ensures.mark i)) h)))

pub returns-in_ok-push-in_default-clause-answers : goal.returns-in_ok-push-in_default-clause-answers
returns-in_ok-push-in_default-clause-answers g c = c.in_ok-next.ensures.on Goal.flow_mapping_value refl _ _ _ (reads (λ names given h. answers_written _ given c.nothing_written.new.slot.next c.nothing_written.ensures (leaves _ c.in_ok-next.ensures.peeked (stay_push stay c.in_ok-push-in_default.ensures.stayed) (λ t e. flow_mapping_value_empty _ t (not_as c.in_default.not-Value e)) (names_nothing refl refl refl) (λ b k. refl) c.mark.ensures (λ o. tt) refl h)))
