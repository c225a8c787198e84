use Rattle.yaml_parser.proofs.Answering.{reads, answers_written, Goal, leaves, names_nothing, refl, stay, stay_push, stays, block_turns, arith}
use Rattle.yaml_parser.proofs.reader.Reader.block_sequence_item.Goals as goal

pub returns-in-BlockEntry-clause-answers : goal.returns-in-BlockEntry-clause-answers
returns-in-BlockEntry-clause-answers g c = c.in_ok-next.ensures.on Goal.block_sequence_item refl _ _ _ (reads (λ names given h. answers_written c.push.new.self given c.nothing_written.new.slot.next c.nothing_written.ensures (leaves _ c.in_ok-next.ensures.peeked (stay_push stay c.in_ok-push.ensures.stayed) (λ t e. (block_turns _).block_sequence_item_empty t (grind arith)) (names_nothing refl refl refl) (λ b k. refl) c.mark.ensures (λ o. tt) refl h)))

pub returns-in_default-clause-answers : goal.returns-in_default-clause-answers
returns-in_default-clause-answers g c = c.in_ok-next.ensures.on Goal.block_sequence_item refl _ _ _ (reads (λ names given h. c.node.ensures.answers.so names given (stays c.in_ok-next.ensures.peeked (stay_push stay c.in_ok-push.ensures.stayed) (λ t e. (block_turns _).block_sequence_item_node t (grind arith)) refl tt (λ o. tt) refl h)))
