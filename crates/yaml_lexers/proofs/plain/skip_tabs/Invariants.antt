use Rattle.yaml_lexers.proofs.Common.{at_folded, between, Context, Folded, plain_from, Reads, tabs, true, ◌<◌, ◌≡◌}
use Rattle.yaml_lexers.proofs.plain.skip_tabs.Given as goal

abbrev pub invariant-tabs : goal.invariant-tabs
invariant-tabs g l = record {
  reads : Reads l.fn.window l.window (λ a b. (context : Context) (t : Folded) → t.leading ≡ true → l.fn.window.col < context.indent →
      plain_from context l.fn.start a (at_folded between l.fn.window t) ≡ plain_from context l.fn.start b (at_folded tabs l.window t));
  less : l.window.left < l.fn.window.left;
}

abbrev pub decreases-tabs : goal.decreases-tabs
decreases-tabs g l = l.window.left
