use Rattle.yaml_parser.proofs.Answering.{reads, names_nothing, plain_flow_turns, refl, stay, stay_push, went, wrote}
use Rattle.yaml_parser.proofs.reader.Reader.flow_pair_end.Goals as goal

pub returns-clause-answers : goal.returns-clause-answers
returns-clause-answers g c = reads (λ names given h. wrote _ given c.write.ensures (went _ (stay_push stay c.in_ok-push.ensures.stayed) ((plain_flow_turns _).flow_pair_ends _) (names_nothing refl refl refl) (λ b k. refl) (λ o. tt) refl h))
