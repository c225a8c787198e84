use Rattle.yaml_scanner.proofs.Common.{ap, handed, refl}
use Rattle.yaml_scanner.proofs.FollowLemmas.{starts}
use Rattle.yaml_scanner.proofs.fetcher.Fetcher.new.Goals as goal

pub returns-clause-follows : goal.returns-clause-follows
returns-clause-follows g c = starts _ (rw (c.new.ensures, c.new-2.ensures, c.new-3.ensures, c.new-4.ensures, c.new-5.ensures) refl) (ap (λ w. w.at) c.new.ensures) refl (ap handed c.new-2.ensures) (ap (λ q. q.over) c.new-2.ensures) refl
