use Rattle.yaml_lexers.proofs.Common.{plain_ran, Reads-map}
use Rattle.yaml_lexers.proofs.plain.read_word.Goals as goal

pub returns-clause-ok : goal.returns-clause-ok
returns-clause-ok g c = Reads-map _ _ c.in_ok-take_word.ensures.ok (λ a b e start. plain_ran _ start a b _ _ _ _ e)
