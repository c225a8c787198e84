use Rattle.std.specs.Prelude.{chars}
use Rattle.yaml_emitter.proofs.Answering.{ap, is_name, is_string, not, typing, word_of_bytes, ◌||◌, ◌∙◌}
use Rattle.yaml_emitter.proofs.quoting.stands_for_word.Goals as goal

pub returns-then-is_name : goal.returns-then-is_name
returns-then-is_name c =
    let named = (c.if-is_name.ensures {u = tt}) ∙ ap is_name c.as_bytes.ensures.value in
    c.if-is_name.true ∙ ap (λ b. b || not (is_string (typing (chars c.args.text.now)))) named ∙ word_of_bytes c.args.text.now c.utf8.text

pub returns-else-is_name : goal.returns-else-is_name
returns-else-is_name c =
    let named = (c.if-is_name.ensures {u = tt}) ∙ ap is_name c.as_bytes.ensures.value in
    ap not c.is_string.ensures ∙ ap (λ b. b || not (is_string (typing (chars c.args.text.now)))) named ∙ word_of_bytes c.args.text.now c.utf8.text
