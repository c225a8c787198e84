use Rattle.yaml_parser.proofs.Answering.{answers_written, ap, At, faulted_as, Goal, goes_apart, Has, NodeContent, nothing_refuses, nothing_there, properties_left, properties_only, refl, refuses, says_node, subst, wrote, arith, None, true, ◌≡◌}
use Rattle.yaml_parser.specs.Blames.{fits}
use Rattle.yaml_parser.proofs.reader.Reader.no_content.Goals as goal

pub returns-in_ok-anchor-in-Some-clause-answers : goal.returns-in_ok-anchor-in-Some-clause-answers
returns-in_ok-anchor-in-Some-clause-answers g c = λ context none. record { so = λ o names given has h. wrote _ given c.write.ensures (answers_written _ given (c.empty_with.result, c.mark-mark.result) (ap (λ v. (v, c.mark-mark.result)) c.empty_with.ensures) (properties_left _ o c.requires c.mark-mark.ensures (λ o' t e. properties_only _ _ o' t (grind arith)) c.in_ok-anchor-in-Some.ensures.registers (subst (Has names o) c.in-Some.is has) h)) }

pub returns-in-None-clause-answers : goal.returns-in-None-clause-answers
returns-in-None-clause-answers g c = λ context none. record { so = λ o names given has h. nothing_there o (subst (Has names o) c.in-None.is has) (λ e. let fit : fits NodeContent c.args.next ≡ true = grind arith in faulted_as _ given c.halt.ensures (refuses NodeContent refl fit c.mark-mark.ensures c.requires (λ t k. nothing_refuses context _ t (grind arith)) (λ _ _ _ _. tt) (goes_apart (Goal.content context None) refl (λ ss f. (refl, refl, refl))) says_node (subst (λ x. At (Goal.content context x) c.args.self.now names given) e h))) }
