use Rattle.yaml_chars.proofs.WindowViewLemmas.{Reads-then}
use Rattle.yaml_chars.proofs.RunLemmas.{Fills-over, Reads-over, Ran-over}
use Rattle.yaml_chars.proofs.window.Window.word_from_source.Goals as goal

pub invariant_of-self : goal.invariant_of-self
invariant_of-self g c = rw c.push.ensures (Fills-over c.self.invariant (cc) c.word_on-met.ensures)

pub returns-then-met-clause-err : goal.returns-then-met-clause-err
returns-then-met-clause-err g c = rw (← c.self.view_is) (Reads-then _ _ _
    (Reads-over c.self.invariant (cc) c.word_on-met.ensures _ _) c.pass_one.ensures (λ a b d e f. tt))

pub invariant_of-self-else-met : goal.invariant_of-self-else-met
invariant_of-self-else-met g c = rw c.push.ensures (Fills-over c.self.invariant (cc) c.word_on-met.ensures)

pub returns-clause-ok : goal.returns-clause-ok
returns-clause-ok g c = rw (← c.self.view_is) (Ran-over c.self.invariant (cc) c.word_on-met.ensures _ _ c.if-met.false)
