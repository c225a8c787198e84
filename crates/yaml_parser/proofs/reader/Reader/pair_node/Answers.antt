use Rattle.yaml_parser.proofs.Answering.{reads, answers_written, Goal, leaves, mapping_under, names_nothing, pair_node_empty, pair_node_written, refl, stay, stays, under_no_colon, arith}
use Rattle.yaml_parser.proofs.reader.Reader.pair_node.Goals as goal

pub returns-in-Key-clause-answers : goal.returns-in-Key-clause-answers
returns-in-Key-clause-answers g c = c.in_ok-next.ensures.on Goal.pair_node refl _ _ _ (reads (λ names given h. answers_written _ given c.nothing_written.new.slot.next c.nothing_written.ensures (leaves _ c.in_ok-next.ensures.peeked stay (λ t e. pair_node_empty _ t (grind arith)) (names_nothing refl refl refl) (λ b k. refl) c.mark.ensures (under_no_colon _ (mapping_under _ h.stands.fits)) refl h)))

pub returns-in_default-clause-answers : goal.returns-in_default-clause-answers
returns-in_default-clause-answers g c = c.in_ok-next.ensures.on Goal.pair_node refl _ _ _ (reads (λ names given h. c.node.ensures.answers.so names given (stays c.in_ok-next.ensures.peeked stay (λ t e. pair_node_written _ t (grind arith)) refl tt (λ o. tt) refl h)))
