use Rattle.yaml_lexers.proofs.Common.{ap, false, is_shallow, on_ok_weaker, sym, ◌∙◌, ◌≡◌}
use Rattle.yaml_lexers.proofs.WordsLemmas.{plain_read}
use Rattle.yaml_lexers.proofs.plain.read_known.Goals as goal

pub returns-clause-ok : goal.returns-clause-ok
returns-clause-ok g c =
    let deep : is_shallow c.args.context c.args.window.now.col ≡ false =
    ap (is_shallow c.args.context) (sym (c.col.ensures.value ∙ ap (λ (m : _). m.col) c.mark.ensures)) ∙ sym c.is_shallow.ensures ∙ c.if-is_shallow.false in
    on_ok_weaker _ (plain_read c.args.context _ _ _ _ deep) c.take_words.ensures.ok
