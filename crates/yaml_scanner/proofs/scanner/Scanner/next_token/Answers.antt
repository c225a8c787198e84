use Rattle.yaml_scanner.proofs.Common.{sym, ◌∙◌}
use Rattle.yaml_scanner.proofs.FollowLemmas.{scans_from, leaves_no_row}
use Rattle.yaml_scanner.proofs.scanner.Scanner.next_token.Goals as goal

pub returns-in-Some-clause-rowless : goal.returns-in-Some-clause-rowless
returns-in-Some-clause-rowless g c = leaves_no_row _ _ (rw (← c.self.view_is) (scans_from c.self.inside.fetcher c.self.invariant)) (sym c.get_error.ensures ∙ c.in-Some.is)

pub returns-in-Err-clause-rowless : goal.returns-in-Err-clause-rowless
returns-in-Err-clause-rowless g c = leaves_no_row _ _ (scans_from c.keep.new.self c.keep.ensures.follows) c.keep.ensures.kept
