use Rattle.yaml_chars.proofs.Common.{refl, rules}
use Rattle.yaml_chars.proofs.WordsLemmas.{Stands-on}
use Rattle.yaml_chars.proofs.source.Source.pull.Goals as goal

pub invariant_of-self : goal.invariant_of-self
invariant_of-self g c =
    Stands-on c.self.invariant (rw (← c.self.view_is) at c.requires) _ c.push.ensures _ (_, search rules, refl) (search rules)
