use Rattle.yaml_chars.proofs.Common.{sym, ◌∙◌}
use Rattle.yaml_chars.proofs.WindowViewLemmas.{Reads-map, Reads-more, Reads-taken}
use Rattle.yaml_chars.proofs.window.Window.space_from_source.Goals as goal

pub returns-then-c-ne32-clause-stays : goal.returns-then-c-ne32-clause-stays
returns-then-c-ne32-clause-stays g c = rw (← c.self.view_is) λ _.
    Reads-map _ _ (Reads-more c.self.invariant c.next-c.ensures _ _) (λ a b e. (e.0, λ f. c.if-c-ne32.true (sym (e.1 (cc)) ∙ f)))

pub returns-clause-taken : goal.returns-clause-taken
returns-clause-taken g c = rw (← c.self.view_is) λ _. rw (← c.if-c-ne32.false)
    (Reads-taken c.self.invariant c.next-c.ensures (λ e. cc) (cc) _ _)
