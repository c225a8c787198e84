use Rattle.yaml_chars.proofs.WindowViewLemmas.{Fills-more, Reads-map, Reads-more}
use Rattle.yaml_chars.proofs.window.Window.fill_one.Goals as goal

pub invariant_of-self : goal.invariant_of-self
invariant_of-self g c = rw c.push.ensures (Fills-more c.self.invariant c.next-c.ensures)

pub returns-clause-reads : goal.returns-clause-reads
returns-clause-reads g c = rw (← c.self.view_is) (Reads-map _ _ (Reads-more c.self.invariant c.next-c.ensures _ _) (λ a b e. e.0))
