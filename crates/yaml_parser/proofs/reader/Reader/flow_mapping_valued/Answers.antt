use Rattle.yaml_parser.proofs.Answering.{reads, answers_written, flow_mapping_valued_empty, flow_mapping_valued_node, Goal, IfSome, leaves_at, names_nothing, refl, stay, stay_push, stays, subst, sym, ◌≡◌, arith}
use Rattle.yaml_parser.proofs.reader.Reader.flow_mapping_valued.Goals as goal

pub returns-in-FlowEntry-clause-answers : goal.returns-in-FlowEntry-clause-answers
returns-in-FlowEntry-clause-answers g c = c.in_ok-next.ensures.on (Goal.flow_mapping_valued c.args.colon) refl _ _ _ (reads (λ names given h. answers_written c.push.new.self given c.nothing_written.new.slot.next c.nothing_written.ensures (leaves_at _ c.in_ok-next.ensures.peeked (stay_push stay c.in_ok-push.ensures.stayed) (λ t e. flow_mapping_valued_empty _ _ t (grind arith)) (names_nothing refl refl refl) (λ k begins. subst (λ b. IfSome b (λ q. c.args.colon ≡ q)) (sym h.colon) refl) (λ o. tt) refl h)))

pub returns-in_default-clause-answers : goal.returns-in_default-clause-answers
returns-in_default-clause-answers g c = c.in_ok-next.ensures.on (Goal.flow_mapping_valued c.args.colon) refl _ _ _ (reads (λ names given h. c.node.ensures.answers.so names given (stays c.in_ok-next.ensures.peeked (stay_push stay c.in_ok-push.ensures.stayed) (λ t e. flow_mapping_valued_node _ _ t (grind arith)) refl tt (λ o. tt) refl h)))
