use Rattle.std.proofs.Common.{rules, ◌≡◌, sym, ap, ◌∙◌}
use Rattle.yaml_rust2.specs.Emitter.{writer_of}
use Rattle.yaml_rust2.specs.Text.{string_chars}
use Rattle.uses.proofs.InTurn.{appended, held_at}
use Rattle.uses.proofs.many_documents.write_onto.Goals as goal

pub returns-in-Ok-clause-text : goal.returns-in-Ok-clause-text
returns-in-Ok-clause-text c =
    let same = c.in-Ok.ensures.same_writer ∙ c.multiline_strings.ensures.same_writer ∙ c.compact.ensures.same_writer ∙ c.new-emitter.ensures.same_writer in
    let text = appended _ _ _ _ _ _ _ _ c.in-Ok.ensures.written
    (ap string_chars (c.multiline_strings.ensures.writer ∙ c.compact.ensures.writer ∙ c.new-emitter.ensures.writer))
    (c.multiline_strings.ensures.compact ∙ c.compact.ensures.compact)
    c.multiline_strings.ensures.multiline in
    held_at _ (writer_of c.dump.new.self) _ text (search (rules, sym same))
