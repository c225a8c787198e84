use Rattle.yaml_scanner.proofs.FollowLemmas.{held_up}
use Rattle.yaml_scanner.proofs.fetcher.Fetcher.hold_up.Goals as goal

pub returns-clause-err : goal.returns-clause-err
returns-clause-err g c = λ mark. held_up c.args.self.now (record { mark = c.mark.result; tokens = c.len.result }) mark c.requires.kept c.requires.going c.requires.follows c.requires.front c.len.ensures.value c.mark.ensures
