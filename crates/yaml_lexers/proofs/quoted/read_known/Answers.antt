use Rattle.yaml_lexers.proofs.Common.{ap, arith, on_ok_weaker, ◌+◌, ◌≤◌}
use Rattle.yaml_lexers.proofs.WordsLemmas.{quoted_read}
use Rattle.yaml_lexers.proofs.quoted.read_known.Goals as goal

pub returns-clause-ok : goal.returns-clause-ok
returns-clause-ok g c =
    let deep : c.args.quote.now.context.indent ≤ c.args.window.now.col + 1 = omega (arith, c.col-col.ensures.value, ap (λ (m : _). m.col) c.mark.ensures, c.if-col-quote.false) in
    on_ok_weaker _ (quoted_read _ _ _ _ _ _ _ _ c.quote_of.ensures.value deep) c.take_words.ensures.ok
