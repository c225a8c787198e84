use Rattle.yaml_parser.proofs.Answering.{reads, answers_written, Goal, goes, leaves, names_nothing, not_as, flow_value_empty, refl, stay, stay_push, flow_turns}
use Rattle.yaml_parser.proofs.reader.Reader.flow_value.Goals as goal

pub returns-in-Value-clause-answers : goal.returns-in-Value-clause-answers
returns-in-Value-clause-answers g c = c.in_ok-next.ensures.on Goal.flow_value refl _ _ _ (reads (λ names given h. c.flow_valued.ensures.answers.so names given (goes c.in_ok-next.ensures.peeked c.in-Value.is refl c.skip.ensures.took (flow_turns _).flow_value_value refl tt refl refl (λ t i. tt) h)))

pub returns-in_ok-push-in_default-clause-answers : goal.returns-in_ok-push-in_default-clause-answers
returns-in_ok-push-in_default-clause-answers g c = c.in_ok-next.ensures.on Goal.flow_value refl _ _ _ (reads (λ names given h. answers_written _ given c.nothing_written.new.slot.next c.nothing_written.ensures (leaves _ c.in_ok-next.ensures.peeked (stay_push stay c.in_ok-push-in_default.ensures.stayed) (λ t e. flow_value_empty _ t (not_as c.in_default.not-Value e)) (names_nothing refl refl refl) (λ b k. refl) c.mark.ensures (λ o. tt) refl h)))
