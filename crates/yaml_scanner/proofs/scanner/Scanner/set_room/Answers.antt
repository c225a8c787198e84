use Rattle.yaml_scanner.proofs.FollowLemmas.{with_room}
use Rattle.yaml_scanner.proofs.scanner.Scanner.set_room.Goals as goal

pub invariant_of-self : goal.invariant_of-self
invariant_of-self g c = with_room c.self.inside.fetcher c.args.tokens c.self.invariant
