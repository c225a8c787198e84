use Rattle.yaml_chars.proofs.WordsLemmas.{Fills-gives, Reads-gives}
use Rattle.yaml_chars.proofs.window.Window.words_from_source.Goals as goal

pub invariant_of-self-2 : goal.invariant_of-self-2
invariant_of-self-2 g c = Fills-gives c.self.invariant (cc) c.in_ok-count.ensures.ok

pub returns-clause-ok : goal.returns-clause-ok
returns-clause-ok g c = rw (← c.self.view_is) (Reads-gives c.self.invariant (cc) c.in_ok-count.ensures.ok _ _)
