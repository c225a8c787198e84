use Rattle.yaml_scanner.proofs.Common.{ap, between, false, held, position_of, skip, sym, true, white, ◌∙◌}
use Rattle.yaml_scanner.proofs.ReadsLemmas.{Reads-map}
use Rattle.yaml_scanner.proofs.SpaceLemmas.{gap_break, white_break}
use Rattle.yaml_scanner.proofs.fetcher.Fetcher.pass_break.Goals as goal

pub returns-clause-gap : goal.returns-clause-gap
returns-clause-gap g c = Reads-map _ _ c.skip_linebreak.ensures.reads (λ a b p i. gap_break a b (held c.args.self.now) _ p i
    ∙ ap (λ k. skip between b (record (held c.args.self.now) { position = position_of c.skip_linebreak.new.window; leading = true; key_allowed = k })) (sym c.allows_key-key_allowed.ensures))

pub returns-clause-white : goal.returns-clause-white
returns-clause-white g c = Reads-map _ _ c.skip_linebreak.ensures.reads (λ a b p i f. white_break f a b (held c.args.self.now) _ p i
    ∙ ap (λ k. white false true b (record (held c.args.self.now) { position = position_of c.skip_linebreak.new.window; leading = true; key_allowed = k })) (sym c.allows_key-key_allowed.ensures))
