use Rattle.yaml_parser.proofs.Answering.{reads, answers_written, no_flow_mapping_value_empty, Goal, leaves, names_nothing, refl, stay, stay_push}
use Rattle.yaml_parser.proofs.reader.Reader.no_flow_mapping_value.Goals as goal

pub returns-clause-answers : goal.returns-clause-answers
returns-clause-answers g c = c.in_ok-peek.ensures.on Goal.no_flow_mapping_value refl _ _ _ (reads (λ names given h. answers_written c.push.new.self given c.nothing_written.new.slot.next c.nothing_written.ensures (leaves _ c.in_ok-peek.ensures.peeked (stay_push stay c.in_ok-push.ensures.stayed) (λ t e. no_flow_mapping_value_empty _ t) (names_nothing refl refl refl) (λ b k. refl) c.mark.ensures (λ o. tt) refl h)))
