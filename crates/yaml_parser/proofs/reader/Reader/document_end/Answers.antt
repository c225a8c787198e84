use Rattle.yaml_parser.proofs.Answering.{reads, after_goes_apart, document_end_refuses, document_end_unmarked, DirectiveWithoutDocumentEnd, faulted_as, gives, Goal, leaves, names_nothing, not_as, push_after, refl, refuses, says_after, stay, stay_push, wrote, document_turns, arith}
use Rattle.yaml_parser.proofs.reader.Reader.document_end.Goals as goal

pub returns-in_ok-push-in-DocumentEnd-clause-answers : goal.returns-in_ok-push-in-DocumentEnd-clause-answers
returns-in_ok-push-in-DocumentEnd-clause-answers g c = c.in_ok-next.ensures.on Goal.document_end refl _ _ _ (reads (λ names given h. wrote _ given c.write.ensures (gives _ c.in_ok-next.ensures.peeked c.in-DocumentEnd.is refl c.skip-mark.ensures.mark (push_after c.skip-mark.ensures.took c.in_ok-push-in-DocumentEnd.ensures.stayed) (document_turns _).document_end_marked (names_nothing refl refl refl) (λ b k. refl) (λ t there. tt) refl refl h)))

pub returns-in-VersionDirective-clause-answers : goal.returns-in-VersionDirective-clause-answers
returns-in-VersionDirective-clause-answers g c = c.in_ok-next.ensures.on Goal.document_end refl _ _ _ (reads (λ names given h. faulted_as _ given c.halt.ensures (refuses DirectiveWithoutDocumentEnd refl (grind arith) c.mark.ensures c.in_ok-next.ensures.peeked (λ t e. document_end_refuses _ t (grind arith)) (λ _ _ _ _. tt) after_goes_apart (says_after (grind arith)) h)))

pub returns-in_ok-push-in_default-clause-answers : goal.returns-in_ok-push-in_default-clause-answers
returns-in_ok-push-in_default-clause-answers g c = c.in_ok-next.ensures.on Goal.document_end refl _ _ _ (reads (λ names given h. wrote _ given c.write-in_default.ensures (leaves _ c.in_ok-next.ensures.peeked (stay_push stay c.in_ok-push-in_default.ensures.stayed) (λ t e. document_end_unmarked _ t (not_as c.in_default.not-DocumentEnd e) (grind arith)) (names_nothing refl refl refl) (λ b k. refl) c.mark-in_default.ensures (λ o. tt) refl h)))
