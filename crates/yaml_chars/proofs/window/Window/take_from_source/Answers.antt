use Rattle.yaml_chars.proofs.Common.{ap, stops, sym, ◌∙◌}
use Rattle.yaml_chars.proofs.WindowViewLemmas.{Reads-map, Reads-more, Reads-taken}
use Rattle.yaml_chars.proofs.window.Window.take_from_source.Goals as goal

pub returns-then-stops-clause-stays : goal.returns-then-stops-clause-stays
returns-then-stops-clause-stays g c =
    rw (← c.self.view_is) (Reads-map _ _ (Reads-more c.self.invariant c.next-c.ensures _ _)
    (λ a b e. (e.0, ap (stops c.args.run) (e.1 (cc)) ∙ sym c.stops.ensures.value ∙ c.if-stops.true)))

pub returns-clause-taken : goal.returns-clause-taken
returns-clause-taken g c = rw (← c.self.view_is) (
  cc,
  Reads-taken c.self.invariant c.next-c.ensures
      (c.stops.ensures.some c.if-stops.false) (cc) _ _,
)
