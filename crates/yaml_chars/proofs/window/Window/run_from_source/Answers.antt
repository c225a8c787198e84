use Rattle.yaml_chars.proofs.RunLemmas.{Fills-over, Reads-over, Ran-over, Reads-map}
use Rattle.yaml_chars.proofs.window.Window.run_from_source.Goals as goal

pub invariant_of-self : goal.invariant_of-self
invariant_of-self g c = rw c.push.ensures (Fills-over c.self.invariant (cc) c.replace_with-ran.ensures)

pub returns-then-refused-clause-err : goal.returns-then-refused-clause-err
returns-then-refused-clause-err g c = rw (← c.self.view_is) (Reads-map _ _
    (Reads-over c.self.invariant (cc) c.replace_with-ran.ensures _ _) (λ a b e. tt))

pub invariant_of-self-2 : goal.invariant_of-self-2
invariant_of-self-2 g c = rw c.push.ensures (Fills-over c.self.invariant (cc) c.replace_with-ran.ensures)

pub returns-clause-ok : goal.returns-clause-ok
returns-clause-ok g c = rw (← c.self.view_is, ← c.take.ensures.value)
    (Ran-over c.self.invariant (cc) c.replace_with-ran.ensures _ _ c.if-refused.false)
