use Rattle.yaml_chars.proofs.WindowViewLemmas.{OnOk-map, Reads-then}
use Rattle.yaml_chars.proofs.WordsLemmas.{takes_then, takes_one}
use Rattle.yaml_chars.proofs.window.Window.take_words.Goals as goal

pub held-preserved : goal.held-preserved
held-preserved g c =
    let taken = c.in-Some.ensures.taken in
    let on = c.in-Some.ensures.on in
    Reads-then _ _ _ c.held.invariant taken.1 (λ a b d x e.
    takes_then _ a b d _ _ _ _ _ _ x (takes_one _ c.in-Some.c b d _ _ _ _ taken.0 e on.at on.line on.col c.in_ok-push.ensures.ok))

pub returns-clause-ok : goal.returns-clause-ok
returns-clause-ok g c = OnOk-map c.words_from_source.result c.words_from_source.ensures.ok (λ reads.
    Reads-then _ _ _ c.held.invariant reads (λ a b d x y. takes_then _ a b d _ _ _ _ _ _ x y))
