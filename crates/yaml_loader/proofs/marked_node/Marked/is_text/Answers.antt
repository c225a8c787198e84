use Rattle.yaml_loader.proofs.Common.{ap, bytes_eq, chars, string, sym, tree_eq, view, ◌∙◌}
use Rattle.yaml_loader.proofs.Seen.{text_is}
use Rattle.yaml_loader.proofs.marked_node.Marked.is_text.Goals as goal

pub returns-in-String : goal.returns-in-String
returns-in-String c =
    let text = c.args.text.now in
    c.eq.ensures ∙ ap (λ b. bytes_eq b text) c.as_str.ensures.value ∙ text_is c.in-String.own text c.utf8.text ∙ ap (λ y. tree_eq (string (chars text)) (view y)) (sym c.in-String.is)
