use Rattle.yaml_lexers.proofs.Common.{quoted_ran, Reads-map}
use Rattle.yaml_lexers.proofs.quoted.read_word.Goals as goal

pub returns-clause-ok : goal.returns-clause-ok
returns-clause-ok g c = Reads-map _ _ c.in_ok-take_word.ensures.ok (λ a b e. quoted_ran _ _ _ a b _ _ _ _ (rw c.quote_of.ensures.value at e))
