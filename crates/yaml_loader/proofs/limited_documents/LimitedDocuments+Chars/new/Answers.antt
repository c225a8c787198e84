use Rattle.yaml_loader.proofs.LimitedCommon.{ap, Chars-spelled, chars_rest, false, IsReady, parsed, subst, sym, ◌∙◌}
use Rattle.yaml_loader.proofs.LimitedCalls.{ready_at_start}
use Rattle.yaml_loader.proofs.limited_documents.LimitedDocuments+Chars.new.Goals as goal

pub invariant_of-result : goal.invariant_of-result
invariant_of-result c =
    let e = c.new_from_str-parser.ensures in
    subst (λ p. IsReady (parsed p) false) (sym c.set_room.ensures) (ready_at_start (parsed c.new_from_str-parser.result) e.given e.fault e.ended e.keep_tags e.steady)

pub returns-clause-text : goal.returns-clause-text
returns-clause-text c = Chars-spelled c.set_room.new.self.start c.args.text.now c.utf8.text (ap (λ p. chars_rest p.start) c.set_room.ensures ∙ c.new_from_str-parser.ensures.source)
