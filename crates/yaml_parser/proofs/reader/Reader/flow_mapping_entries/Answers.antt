use Rattle.yaml_parser.proofs.Answering.{reads, all_shown, answers_written, ap, behind, flow_mapping_entries_node, gives, Goal, goes, IfSome, mapping_ends, names_nothing, None, not_as, push_after, refl, Some, stay, stay_push, stays, subst, sym, wrote, flow_turns, ◌≡◌}
use Rattle.yaml_parser.specs.At.{start_after}
use Rattle.yaml_parser.proofs.reader.Reader.flow_mapping_entries.Goals as goal

pub returns-in-FlowMappingEnd-clause-answers : goal.returns-in-FlowMappingEnd-clause-answers
returns-in-FlowMappingEnd-clause-answers g c = λ after. c.in_ok-next.ensures.on (Goal.flow_mapping_entries (start_after c.args.comma)) refl _ _ _ (reads (λ names given h. wrote _ given c.write.ensures
    (rw (c.unwrap_or.ensures) (mapping_ends _ c.args.comma c.in_ok-next.ensures.peeked c.in-FlowMappingEnd.is c.skip-end.ensures.mark (subst (λ x. IfSome c.args.comma (λ m. behind None (all_shown x.items) ≡ Some m)) (sym c.in_ok-next.ensures.taken) after) c.skip-end.ensures.took h))))

pub returns-in-Key-clause-answers : goal.returns-in-Key-clause-answers
returns-in-Key-clause-answers g c = λ after. c.in_ok-next.ensures.on (Goal.flow_mapping_entries (start_after c.args.comma)) refl _ _ _ (reads (λ names given h. c.flow_mapping_keyed.ensures.answers.so names given (goes c.in_ok-next.ensures.peeked c.in-Key.is refl c.skip.ensures.took ((flow_turns _).flow_mapping_entries_key _) refl tt refl refl (λ t i. tt) h)))

pub returns-in_ok-push-in-Value-clause-answers : goal.returns-in_ok-push-in-Value-clause-answers
returns-in_ok-push-in-Value-clause-answers g c = λ after. c.in_ok-next.ensures.on (Goal.flow_mapping_entries (start_after c.args.comma)) refl _ _ _ (reads (λ names given h. answers_written _ given c.nothing_written.new.slot.next c.nothing_written.ensures (gives _ c.in_ok-next.ensures.peeked c.in-Value.is refl c.skip-colon.ensures.mark (push_after c.skip-colon.ensures.took c.in_ok-push-in-Value.ensures.stayed) ((flow_turns _).flow_mapping_entries_value _ _) (names_nothing refl refl refl) (λ b k. refl) (λ t there. ap Some there) refl refl h)))

pub returns-in_ok-push-in_default-clause-answers : goal.returns-in_ok-push-in_default-clause-answers
returns-in_ok-push-in_default-clause-answers g c = λ after. c.in_ok-next.ensures.on (Goal.flow_mapping_entries (start_after c.args.comma)) refl _ _ _ (reads (λ names given h. c.node.ensures.answers.so names given (stays c.in_ok-next.ensures.peeked (stay_push stay c.in_ok-push-in_default.ensures.stayed) (λ t e. flow_mapping_entries_node _ _ t (not_as c.in_default.not-FlowMappingEnd e) (not_as c.in_default.not-Key e) (not_as c.in_default.not-Value e)) refl tt (λ o. tt) refl h)))
