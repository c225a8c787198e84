use Rattle.yaml_json.proofs.Answering.{false_word, null_word, refl, true_word, word_is, ◌∙◌}
use Rattle.yaml_json.proofs.scalar.read_word.Goals as goal

pub returns-then-take_word : goal.returns-then-take_word
returns-then-take_word c = word_is true_word tt refl (rw c.if-take_word.true at c.take_word.ensures)

pub returns-then-take_word-2 : goal.returns-then-take_word-2
returns-then-take_word-2 c =
    word_is false_word tt refl (rw c.if-take_word-2.true at c.take_word-2.ensures ∙ rw c.if-take_word.false at c.take_word.ensures)

pub returns-then-take_word-3 : goal.returns-then-take_word-3
returns-then-take_word-3 c =
    let none = rw c.if-take_word.false at c.take_word.ensures in
    let nor = rw c.if-take_word-2.false at c.take_word-2.ensures in
    word_is null_word tt refl (rw c.if-take_word-3.true at c.take_word-3.ensures ∙ nor ∙ none)
