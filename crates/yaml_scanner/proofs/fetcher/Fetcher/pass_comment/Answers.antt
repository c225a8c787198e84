use Rattle.yaml_scanner.proofs.Common.{ap, false, held, position_of, Reads-then, ◌∙◌, ◌∷◌}
use Rattle.yaml_scanner.proofs.SpaceLemmas.{gap_hash, gap_comment, tab_hash, white_hash, white_comment}
use Rattle.yaml_scanner.proofs.fetcher.Fetcher.pass_comment.Goals as goal

pub returns-clause-gap : goal.returns-clause-gap
returns-clause-gap g c = Reads-then _ _ _ c.skip.ensures.reads c.skip_comment.ensures.reads (λ a b d p q i.
    gap_hash a b (held c.args.self.now) _ (p ∙ ap (λ x. x ∷ b) i) (ap (λ w. record (held c.args.self.now) { position = position_of w; leading = false }) c.skip.ensures.state)
    ∙ gap_comment b d _ _ q)

pub returns-clause-tab_line : goal.returns-clause-tab_line
returns-clause-tab_line g c = Reads-then _ _ _ c.skip.ensures.reads c.skip_comment.ensures.reads (λ a b d p q i.
    tab_hash a b (held c.args.self.now) _ (p ∙ ap (λ x. x ∷ b) i) (ap (λ w. record (held c.args.self.now) { position = position_of w }) c.skip.ensures.state)
    ∙ gap_comment b d _ _ q)

pub returns-clause-white : goal.returns-clause-white
returns-clause-white g c = Reads-then _ _ _ c.skip.ensures.reads c.skip_comment.ensures.reads (λ a b d p q i f.
    white_hash f a b (held c.args.self.now) _ (p ∙ ap (λ x. x ∷ b) i) (ap (λ w. record (held c.args.self.now) { position = position_of w }) c.skip.ensures.state)
    ∙ white_comment f b d _ _ q)
