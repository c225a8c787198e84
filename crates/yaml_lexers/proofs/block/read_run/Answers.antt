use Rattle.yaml_lexers.proofs.Common.{block_ran, on_ok_weaker, Reads-then, ◌∙◌}
use Rattle.yaml_lexers.proofs.WordsLemmas.{block_words}
use Rattle.yaml_lexers.proofs.block.read_run.Goals as goal

pub returns-then-is_breakz-clause-ok : goal.returns-then-is_breakz-clause-ok
returns-then-is_breakz-clause-ok g c =
    Reads-then _ _ _ c.in_ok-take_known.ensures.ok c.look_ch.ensures.reads (λ a b d words same literal column.
    rw (same.0, c.look_ch.ensures.position.at, c.look_ch.ensures.position.line, c.look_ch.ensures.position.col)
    (block_words literal column a b _ _ _ _ words))

pub returns-clause-ok : goal.returns-clause-ok
returns-clause-ok g c =
    on_ok_weaker c.take_run.result (λ run. Reads-then _ _ _
    (Reads-then _ _ _ c.in_ok-take_known.ensures.ok c.look_ch.ensures.reads (λ a b d words same. rw same.0 words)) run (λ a b d words ran literal column.
    block_words literal column a b _ _ _ _ words
    ∙ block_ran literal column b d _ _ _ _ (rw (c.look_ch.ensures.position.at, c.look_ch.ensures.position.line, c.look_ch.ensures.position.col) at ran)))
    c.take_run.ensures.ok
