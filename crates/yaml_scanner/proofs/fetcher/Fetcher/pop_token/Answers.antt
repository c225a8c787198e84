use Rattle.yaml_scanner.proofs.Common.{[], handed, IfSome, is_end, subst, ◌++◌, ◌+◌, ◌||◌, ◌∷◌, ◌≡◌}
use Rattle.yaml_tokens.specs.Shown.{shown}
use Rattle.yaml_scanner.proofs.FollowLemmas.{handed_on}
use Rattle.yaml_scanner.proofs.fetcher.Fetcher.pop_token.Goals as goal

pub returns-clause-follows : goal.returns-clause-follows
returns-clause-follows g c =
    let q = c.args.self.now.tokens in
    handed_on c.args.self.now c.pop.new.self c.lower.new.self (shown c.in-Some.token) c.requires.kept c.requires.going c.requires.front
    (subst (λ o. IfSome o (λ t. c.pop.new.self ≡ record q { given = q.given + 1; over = q.over || is_end (shown t).tok })) c.in-Some.is c.pop.ensures.some)
    (subst (λ o. IfSome o (λ t. handed c.pop.new.self ≡ handed q ++ shown t ∷ [])) c.in-Some.is c.pop.ensures.handed)
    c.lower.ensures c.requires.follows
