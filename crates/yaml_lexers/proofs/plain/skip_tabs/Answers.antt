use Rattle.yaml_lexers.proofs.Common.{ap, at_folded, plain_from, Reads-saw, sym, tab_turn, tabs, ◌∙◌, ◌∷◌}
use Rattle.yaml_lexers.proofs.plain.skip_tabs.Goals as goal

pub tabs-init : goal.tabs-init
tabs-init g c = record {
  reads = Reads-saw _ _ c.requires.tab c.skip.ensures.reads (λ a b tab more context t leading left.
      tab_turn context c.args.start a b _ t (more ∙ ap (λ x. x ∷ b) tab) leading left
      ∙ sym (ap (λ w. plain_from context c.args.start b (at_folded tabs w t)) c.skip.ensures.state));
  less = c.skip.ensures.less;
}
