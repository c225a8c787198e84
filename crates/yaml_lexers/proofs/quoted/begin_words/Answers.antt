use Rattle.yaml_lexers.proofs.Common.{ap, arith, first, Folded, inside, position_of, quoted_from, Reads-then, sym, ◌∙◌, ◌≡◌}
use Rattle.yaml_lexers.specs.ShownQuoted.{at_folded}
use Rattle.yaml_lexers.proofs.QuotedLemmas.{begins_inside}
use Rattle.yaml_lexers.proofs.quoted.begin_words.Goals as goal

pub returns-clause-ok : goal.returns-clause-ok
returns-clause-ok g c =
    let col : c.col-col.result ≡ c.args.window.now.col = c.col-col.ensures.value ∙ ap (λ (m : _). m.col) c.mark.ensures in
    Reads-then _ _ _ c.in_ok-begin_run.ensures.ok c.take_closing.ensures.reads (λ a b d reads closes.
    ap (λ (t : Folded). quoted_from c.args.quote.now.single c.args.quote.now.context c.args.quote.now.start a (at_folded first c.args.window.now t)) c.requires
    ∙ begins_inside _ _ _ a (position_of c.args.window.now) (omega (arith, col, c.if-col-eq0.false)) (omega (arith, col, c.if-col-quote.false))
    ∙ ap (λ (t : Folded). quoted_from c.args.quote.now.single c.args.quote.now.context c.args.quote.now.start a (at_folded inside c.args.window.now t)) (sym c.requires)
    ∙ reads ∙ closes _)
